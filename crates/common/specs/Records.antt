-- The records that every make has: what they hold, show and become. Assumes nothing.
use Rattle.std.specs.Prelude.{ℕ, List}
use Rattle.make.specs.declared.kind.Kind.{Kind}
use Rattle.make.specs.declared.kind.Kind.TheVariants.{System as SystemKind, Site as SiteKind, ChannelGroup as ChannelGroupKind, TalkgroupGroup as TalkgroupGroupKind, Channel as ChannelKind, Talkgroup as TalkgroupKind, TrunkFrequency as TrunkFrequencyKind}
use Rattle.sorts.specs.declared.sort.StartingName.TheVariants.{Site as SiteName, Group as GroupName}
use Rattle.sorts.specs.Plans.{Part, Plan}
use Rattle.common.specs.declared.named.Named.{Named}
use Rattle.common.specs.declared.site.SiteSettings.{SiteSettings}
use Rattle.common.specs.declared.group.GroupSettings.{GroupSettings}
use Rattle.common.specs.declared.record.Record.{Record}
use Rattle.common.specs.declared.record.Record.TheVariants.{System, Site, ChannelGroup, TalkgroupGroup, Channel, Talkgroup, TrunkFrequency}
use Rattle.common.specs.Scheme.{Scheme}
use Rattle.common.specs.Site.{site_scheme}
use Rattle.common.specs.Group.{group_scheme}
use Rattle.common.specs.Trunk.{trunk_scheme}
use Rattle.common.specs.Named.{named}

-- the kinds whose settings each make has of its own
pub record Schemes (S C T : Type 0) : Type 0 where
  pub system : Scheme S
  pub channel : Scheme C
  pub talkgroup : Scheme T

-- schemes from their three parts
abbrev pub schemes : {S C T : Type 0} → Scheme S → Scheme C → Scheme T → Schemes S C T
schemes system channel talkgroup = record { system = system; channel = channel; talkgroup = talkgroup }

-- a site behind its name
abbrev pub named_site : Scheme (Named SiteSettings)
named_site = named SiteName site_scheme

-- a group behind its name
abbrev pub named_group : Scheme (Named GroupSettings)
named_group = named GroupName group_scheme

-- the part of a make's table for settings
abbrev pub part_in : {S : Type 0} → Scheme S → Part
part_in H = record { rows = H.rows; first = H.first }

-- the table of a make
abbrev pub plan_of : {S C T : Type 0} → ℕ → List (List ℕ) → Schemes S C T → Plan
plan_of most types H = record {
  most = most;
  types = types;
  system = part_in H.system;
  site = part_in named_site;
  group = part_in named_group;
  channel = part_in H.channel;
  talkgroup = part_in H.talkgroup;
  trunk = part_in trunk_scheme;
}

-- a record's kind
abbrev pub kind_of : {S C T : Type 0} → Record S C T → Kind
kind_of (System n s) = SystemKind
kind_of (Site s) = SiteKind
kind_of (ChannelGroup s) = ChannelGroupKind
kind_of (TalkgroupGroup s) = TalkgroupGroupKind
kind_of (Channel s) = ChannelKind
kind_of (Talkgroup s) = TalkgroupKind
kind_of (TrunkFrequency s) = TrunkFrequencyKind

-- the type of a system, and 0 for any other record
abbrev pub type_of : {S C T : Type 0} → Record S C T → ℕ
type_of (System n s) = n
type_of (Site s) = 0
type_of (ChannelGroup s) = 0
type_of (TalkgroupGroup s) = 0
type_of (Channel s) = 0
type_of (Talkgroup s) = 0
type_of (TrunkFrequency s) = 0

-- the text that each field of a record shows
abbrev pub texts_of : {S C T : Type 0} → Schemes S C T → Record S C T → List (List ℕ)
texts_of H (System n s) = H.system.texts s
texts_of H (Site s) = named_site.texts s
texts_of H (ChannelGroup s) = named_group.texts s
texts_of H (TalkgroupGroup s) = named_group.texts s
texts_of H (Channel s) = H.channel.texts s
texts_of H (Talkgroup s) = H.talkgroup.texts s
texts_of H (TrunkFrequency s) = trunk_scheme.texts s

-- a new record of a kind and a type
abbrev pub made_record : {S C T : Type 0} → Schemes S C T → Kind → ℕ → Record S C T
made_record H SystemKind n = System n H.system.blank
made_record H SiteKind n = Site named_site.blank
made_record H ChannelGroupKind n = ChannelGroup named_group.blank
made_record H TalkgroupGroupKind n = TalkgroupGroup named_group.blank
made_record H ChannelKind n = Channel H.channel.blank
made_record H TalkgroupKind n = Talkgroup H.talkgroup.blank
made_record H TrunkFrequencyKind n = TrunkFrequency trunk_scheme.blank

-- a record after a text for a field
abbrev pub written_record : {S C T : Type 0} → Schemes S C T → Record S C T → ℕ → List ℕ → Record S C T
written_record H (System n s) f t = System n (H.system.written s f t)
written_record H (Site s) f t = Site (named_site.written s f t)
written_record H (ChannelGroup s) f t = ChannelGroup (named_group.written s f t)
written_record H (TalkgroupGroup s) f t = TalkgroupGroup (named_group.written s f t)
written_record H (Channel s) f t = Channel (H.channel.written s f t)
written_record H (Talkgroup s) f t = Talkgroup (H.talkgroup.written s f t)
written_record H (TrunkFrequency s) f t = TrunkFrequency (trunk_scheme.written s f t)
