-- What holds of the records that every make has. Assumes nothing.
use Rattle.std.specs.Prelude.{◌≡◌, ℕ, true, false, List, length, set, slice_set, refl}
use Rattle.std.proofs.Common.{sym, ap, ◌∙◌}
use Rattle.make.specs.declared.kind.Kind.{Kind}
use Rattle.make.specs.declared.kind.Kind.TheVariants.{System as SystemKind, Site as SiteKind, ChannelGroup as ChannelGroupKind, TalkgroupGroup as TalkgroupGroupKind, Channel as ChannelKind, Talkgroup as TalkgroupKind, TrunkFrequency as TrunkFrequencyKind}
use Rattle.make.specs.Data.{legal_at, standard_at, starts_of, fields_of}
use Rattle.sorts.specs.declared.sort.StartingName.TheVariants.{Site as SiteName, Group as GroupName}
use Rattle.sorts.specs.Sorts.{legal_in, standard_in}
use Rattle.sorts.specs.Plans.{spec_of, sort_at}
use Rattle.sorts.proofs.PlanLaws.{legal_at_lem, standard_at_lem}
use Rattle.common.specs.declared.record.Record.{Record}
use Rattle.common.specs.declared.record.Record.TheVariants.{System, Site, ChannelGroup, TalkgroupGroup, Channel, Talkgroup, TrunkFrequency}
use Rattle.common.specs.Scheme.{Scheme, SchemeKeeps}
use Rattle.common.specs.Site.{site_scheme}
use Rattle.common.specs.Group.{group_scheme}
use Rattle.common.specs.Keeps.{site_keeps, group_keeps, trunk_keeps}
use Rattle.common.specs.NamedLaws.{named_keeps}
use Rattle.common.specs.Records.{Schemes, schemes, named_site, named_group, plan_of, kind_of, type_of, texts_of, made_record, written_record}

-- the settings that each make has of its own keep the rules
pub record SchemesKeep {S C T : Type 0} (H : Schemes S C T) : Type 0 where
  pub system : SchemeKeeps H.system
  pub channel : SchemeKeeps H.channel
  pub talkgroup : SchemeKeeps H.talkgroup

abbrev pub keep : {S C T : Type 0} {system : Scheme S} {channel : Scheme C} {talkgroup : Scheme T} → SchemeKeeps system → SchemeKeeps channel → SchemeKeeps talkgroup → SchemesKeep (schemes system channel talkgroup)
keep system channel talkgroup = record { system = system; channel = channel; talkgroup = talkgroup }

-- so do those that the makes hold alike
sites : SchemeKeeps named_site
sites = named_keeps SiteName site_scheme site_keeps

groups : SchemeKeeps named_group
groups = named_keeps GroupName group_scheme group_keeps

-- a new record shows the starting texts
pub made_texts : {S C T : Type 0} {H : Schemes S C T} (most : ℕ) (types : List (List ℕ)) → SchemesKeep H → (k : Kind) (n : ℕ) → texts_of H (made_record H k n) ≡ starts_of (spec_of (plan_of most types H)) k
made_texts {H = H} most types K SystemKind n = K.system.started
made_texts {H = H} most types K SiteKind n = sites.started
made_texts {H = H} most types K ChannelGroupKind n = groups.started
made_texts {H = H} most types K TalkgroupGroupKind n = groups.started
made_texts {H = H} most types K ChannelKind n = K.channel.started
made_texts {H = H} most types K TalkgroupKind n = K.talkgroup.started
made_texts {H = H} most types K TrunkFrequencyKind n = trunk_keeps.started

-- a legal text makes its field show the standard form
shown : {S C T : Type 0} (most : ℕ) (types : List (List ℕ)) (H : Schemes S C T) → SchemesKeep H → (r : Record S C T) (f : ℕ) (t : List ℕ) → legal_in (sort_at (plan_of most types H) (kind_of r) f) t ≡ true → texts_of H (written_record H r f t) ≡ slice_set (texts_of H r) f (standard_in (sort_at (plan_of most types H) (kind_of r) f) t)
shown most types H K (System n s) f t h = K.system.accepted s f t h
shown most types H K (Site s) f t h = sites.accepted s f t h
shown most types H K (ChannelGroup s) f t h = groups.accepted s f t h
shown most types H K (TalkgroupGroup s) f t h = groups.accepted s f t h
shown most types H K (Channel s) f t h = K.channel.accepted s f t h
shown most types H K (Talkgroup s) f t h = K.talkgroup.accepted s f t h
shown most types H K (TrunkFrequency s) f t h = trunk_keeps.accepted s f t h

pub accepted : {S C T : Type 0} {H : Schemes S C T} (most : ℕ) (types : List (List ℕ)) → SchemesKeep H → (r : Record S C T) (f : ℕ) (t : List ℕ) → legal_at (spec_of (plan_of most types H)) (kind_of r) f t ≡ true → texts_of H (written_record H r f t) ≡ slice_set (texts_of H r) f (standard_at (spec_of (plan_of most types H)) (kind_of r) f t)
accepted {H = H} most types K r f t h =
    let P = plan_of most types H in
    shown most types H K r f t (sym (legal_at_lem P (kind_of r) f t) ∙ h) ∙ ap (set (texts_of H r) f) (sym (standard_at_lem P (kind_of r) f t))

-- any other text changes nothing
kept : {S C T : Type 0} (most : ℕ) (types : List (List ℕ)) (H : Schemes S C T) → SchemesKeep H → (r : Record S C T) (f : ℕ) (t : List ℕ) → legal_in (sort_at (plan_of most types H) (kind_of r) f) t ≡ false → written_record H r f t ≡ r
kept most types H K (System n s) f t h = ap (λ x. System n x) (K.system.refused s f t h)
kept most types H K (Site s) f t h = ap Site (sites.refused s f t h)
kept most types H K (ChannelGroup s) f t h = ap ChannelGroup (groups.refused s f t h)
kept most types H K (TalkgroupGroup s) f t h = ap TalkgroupGroup (groups.refused s f t h)
kept most types H K (Channel s) f t h = ap Channel (K.channel.refused s f t h)
kept most types H K (Talkgroup s) f t h = ap Talkgroup (K.talkgroup.refused s f t h)
kept most types H K (TrunkFrequency s) f t h = ap TrunkFrequency (trunk_keeps.refused s f t h)

pub refused : {S C T : Type 0} {H : Schemes S C T} (most : ℕ) (types : List (List ℕ)) → SchemesKeep H → (r : Record S C T) (f : ℕ) (t : List ℕ) → legal_at (spec_of (plan_of most types H)) (kind_of r) f t ≡ false → written_record H r f t ≡ r
refused {H = H} most types K r f t h = kept most types H K r f t (sym (legal_at_lem (plan_of most types H) (kind_of r) f t) ∙ h)

-- a record shows one text for each field of its kind
pub counted : {S C T : Type 0} {H : Schemes S C T} (most : ℕ) (types : List (List ℕ)) → SchemesKeep H → (r : Record S C T) → length (texts_of H r) ≡ length (fields_of (spec_of (plan_of most types H)) (kind_of r))
counted {H = H} most types K (System n s) = K.system.counted s
counted {H = H} most types K (Site s) = sites.counted s
counted {H = H} most types K (ChannelGroup s) = groups.counted s
counted {H = H} most types K (TalkgroupGroup s) = groups.counted s
counted {H = H} most types K (Channel s) = K.channel.counted s
counted {H = H} most types K (Talkgroup s) = K.talkgroup.counted s
counted {H = H} most types K (TrunkFrequency s) = trunk_keeps.counted s

-- a new record has the kind and the type that it was made with
pub made_kind : {S C T : Type 0} (H : Schemes S C T) (k : Kind) (n : ℕ) → kind_of (made_record H k n) ≡ k
made_kind H SystemKind n = refl
made_kind H SiteKind n = refl
made_kind H ChannelGroupKind n = refl
made_kind H TalkgroupGroupKind n = refl
made_kind H ChannelKind n = refl
made_kind H TalkgroupKind n = refl
made_kind H TrunkFrequencyKind n = refl

pub made_type : {S C T : Type 0} (H : Schemes S C T) (n : ℕ) → type_of (made_record H SystemKind n) ≡ n
made_type H n = refl

-- no text changes the kind or the type
pub written_kind : {S C T : Type 0} (H : Schemes S C T) (r : Record S C T) (f : ℕ) (t : List ℕ) → kind_of (written_record H r f t) ≡ kind_of r
written_kind H (System n s) f t = refl
written_kind H (Site s) f t = refl
written_kind H (ChannelGroup s) f t = refl
written_kind H (TalkgroupGroup s) f t = refl
written_kind H (Channel s) f t = refl
written_kind H (Talkgroup s) f t = refl
written_kind H (TrunkFrequency s) f t = refl

pub written_type : {S C T : Type 0} (H : Schemes S C T) (r : Record S C T) (f : ℕ) (t : List ℕ) → type_of (written_record H r f t) ≡ type_of r
written_type H (System n s) f t = refl
written_type H (Site s) f t = refl
written_type H (ChannelGroup s) f t = refl
written_type H (TalkgroupGroup s) f t = refl
written_type H (Channel s) f t = refl
written_type H (Talkgroup s) f t = refl
written_type H (TrunkFrequency s) f t = refl
