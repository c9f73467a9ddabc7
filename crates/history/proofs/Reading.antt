-- What a read shows, and where. Assumes nothing.
use Rattle.std.proofs.Common.{◌≡◌, ℕ, ◌+◌, ◌-◌, ◌<◌, ◌≤◌, true, cond, ◌||◌, eqb, List, [], ◌∷◌, ◌++◌, length, get_or, take, drop, Some, sym, refl, ap, ◌∙◌, inl, inr, arith, length-append, length-drop}
use Rattle.std.proofs.lemmas.List.{length-take-le, get_or-take, get_or-drop, get_or_append_left, get_or-append-add, take_at}
use Rattle.std.proofs.lemmas.Bool.{lt-ltb, le-ltb, cases_lt, false≢true}
use Rattle.make.specs.declared.kind.Kind.{Kind}
use Rattle.make.specs.declared.kind.Kind.TheVariants.{System, Site, ChannelGroup, TalkgroupGroup, Channel, Talkgroup, TrunkFrequency}
use Rattle.make.specs.Data.{MakeSpec, fields_of, first_of}
use Rattle.chain.specs.Rows.{head_or, last_or}
use Rattle.ledger.specs.Ledger.{Store, Holding, holding, members}
use Rattle.ledger.specs.Records.{is_for, kind_number, target}
use Rattle.ledger.specs.Replies.{shown, lead, links, shown_record}
use Rattle.ledger.specs.Steps.{done, at, says}
use Rattle.history.specs.Promise.{read_of, leads, link_count, field_place, link_place, head_link, owns_members}

-- the command that reads a kind is for the records of that kind
pub read_for : (k : Kind) (h : Holding) → h.kind ≡ k → is_for (read_of k) h ≡ true
read_for System h e = ap (λ z. eqb 1 (kind_number z)) e
read_for Site h e = ap (λ z. eqb 2 (kind_number z)) e
read_for ChannelGroup h e = ap (λ z. eqb 3 (kind_number z) || eqb 4 (kind_number z)) e
read_for TalkgroupGroup h e = ap (λ z. eqb 3 (kind_number z) || eqb 4 (kind_number z)) e
read_for Channel h e = ap (λ z. eqb 5 (kind_number z)) e
read_for Talkgroup h e = ap (λ z. eqb 6 (kind_number z)) e
read_for TrunkFrequency h e = ap (λ z. eqb 7 (kind_number z)) e

-- a line of that command and an index shows the record
pub read_said : (S : MakeSpec) (L : Store) (k : Kind) (t : List ℕ) (i : ℕ) → target L (read_of k) t ≡ Some i → (done S L (read_of k) (t ∷ [])).said ≡ (says L (read_of k) (shown_record S L i (holding L i))).said
read_said S L System t i e = ap (λ o. (at L o (λ j. says L (read_of System) (shown_record S L j (holding L j)))).said) e
read_said S L Site t i e = ap (λ o. (at L o (λ j. says L (read_of Site) (shown_record S L j (holding L j)))).said) e
read_said S L ChannelGroup t i e = ap (λ o. (at L o (λ j. says L (read_of ChannelGroup) (shown_record S L j (holding L j)))).said) e
read_said S L TalkgroupGroup t i e = ap (λ o. (at L o (λ j. says L (read_of TalkgroupGroup) (shown_record S L j (holding L j)))).said) e
read_said S L Channel t i e = ap (λ o. (at L o (λ j. says L (read_of Channel) (shown_record S L j (holding L j)))).said) e
read_said S L Talkgroup t i e = ap (λ o. (at L o (λ j. says L (read_of Talkgroup) (shown_record S L j (holding L j)))).said) e
read_said S L TrunkFrequency t i e = ap (λ o. (at L o (λ j. says L (read_of TrunkFrequency) (shown_record S L j (holding L j)))).said) e

lead_long : (S : MakeSpec) (k : Kind) (n : ℕ) → length (lead S k n) ≡ leads k
lead_long S System n = refl
lead_long S Site n = refl
lead_long S ChannelGroup n = refl
lead_long S TalkgroupGroup n = refl
lead_long S Channel n = refl
lead_long S Talkgroup n = refl
lead_long S TrunkFrequency n = refl

links_long : (L : Store) (i : ℕ) (k : Kind) → length (links L i k) ≡ link_count k
links_long L i System = refl
links_long L i Site = refl
links_long L i ChannelGroup = refl
links_long L i TalkgroupGroup = refl
links_long L i Channel = refl
links_long L i Talkgroup = refl
links_long L i TrunkFrequency = refl

head_shown : (L : Store) (i : ℕ) (k : Kind) (more : List (List ℕ)) → owns_members k ≡ true → get_or (links L i k ++ more) (head_link k) [] ≡ shown (head_or 0 (members L i))
head_shown L i System more e = refl
head_shown L i Site more e = refl
head_shown L i ChannelGroup more e = refl
head_shown L i TalkgroupGroup more e = refl
head_shown L i Channel more e = absurd (false≢true e)
head_shown L i Talkgroup more e = absurd (false≢true e)
head_shown L i TrunkFrequency more e = absurd (false≢true e)

tail_shown : (L : Store) (i : ℕ) (k : Kind) (more : List (List ℕ)) → owns_members k ≡ true → get_or (links L i k ++ more) (head_link k + 1) [] ≡ shown (last_or 0 (members L i))
tail_shown L i System more e = refl
tail_shown L i Site more e = refl
tail_shown L i ChannelGroup more e = refl
tail_shown L i TalkgroupGroup more e = refl
tail_shown L i Channel more e = absurd (false≢true e)
tail_shown L i Talkgroup more e = absurd (false≢true e)
tail_shown L i TrunkFrequency more e = absurd (false≢true e)

module _ (S : MakeSpec) (L : Store) (i : ℕ) (k : Kind) (n : ℕ) (ts : List (List ℕ)) (all : length ts ≡ length (fields_of S k)) (front : first_of S k ≤ length (fields_of S k)) where
  abbrev shows : List (List ℕ)
  shows = lead S k n ++ (take (first_of S k) ts ++ (links L i k ++ drop (first_of S k) ts))

  part_long : length (take (first_of S k) ts) ≡ first_of S k
  part_long = length-take-le (first_of S k) ts (omega (arith, all, front))

  -- what stands behind the lead
  behind_lead : (p : ℕ) → get_or (lead S k n ++ (take (first_of S k) ts ++ (links L i k ++ drop (first_of S k) ts))) (leads k + p) [] ≡ get_or (take (first_of S k) ts ++ (links L i k ++ drop (first_of S k) ts)) p []
  behind_lead p = ap (λ z. get_or shows (z + p) []) (sym (lead_long S k n)) ∙ get_or-append-add (lead S k n) _ p []

  behind_first : (p : ℕ) → get_or (take (first_of S k) ts ++ (links L i k ++ drop (first_of S k) ts)) (first_of S k + p) [] ≡ get_or (links L i k ++ drop (first_of S k) ts) p []
  behind_first p = ap (λ z. get_or (take (first_of S k) ts ++ (links L i k ++ drop (first_of S k) ts)) (z + p) []) (sym part_long) ∙ get_or-append-add (take (first_of S k) ts) _ p []

  pub shown_count : length shows ≡ leads k + (link_count k + length (fields_of S k))
  shown_count = omega (arith, all, front, part_long, lead_long S k n, links_long L i k, length-append (lead S k n) (take (first_of S k) ts ++ (links L i k ++ drop (first_of S k) ts)), length-append (take (first_of S k) ts) (links L i k ++ drop (first_of S k) ts), length-append (links L i k) (drop (first_of S k) ts), length-drop (first_of S k) ts)

  pub shown_front : take (leads k) shows ≡ lead S k n
  shown_front = take_at (lead S k n) _ (leads k) (lead_long S k n)

  pub shown_field : (f : ℕ) → f < length (fields_of S k) → get_or shows (field_place S k f) [] ≡ get_or ts f []
  shown_field f h = elim (cases_lt f (first_of S k)) [
    | inl low ↦ ap (λ b. get_or shows (leads k + cond b f (link_count k + f)) []) (lt-ltb f (first_of S k) low) ∙ behind_lead f
        ∙ get_or_append_left (take (first_of S k) ts) _ [] f (omega (arith, part_long, low)) ∙ get_or-take (first_of S k) ts f [] low
    | inr high ↦
        let is : link_count k + f ≡ first_of S k + (link_count k + (f - first_of S k)) = omega (arith, high) in
        let back : first_of S k + (f - first_of S k) ≡ f = omega (arith, high) in
        ap (λ b. get_or shows (leads k + cond b f (link_count k + f)) []) (le-ltb f (first_of S k) high) ∙ behind_lead (link_count k + f)
        ∙ ap (λ z. get_or (take (first_of S k) ts ++ (links L i k ++ drop (first_of S k) ts)) z []) is ∙ behind_first (link_count k + (f - first_of S k))
        ∙ ap (λ z. get_or (links L i k ++ drop (first_of S k) ts) (z + (f - first_of S k)) []) (sym (links_long L i k)) ∙ get_or-append-add (links L i k) _ (f - first_of S k) []
        ∙ get_or-drop (first_of S k) ts (f - first_of S k) [] ∙ ap (λ z. get_or ts z []) back
  ]

  link_at : (p : ℕ) → get_or shows (link_place S k + p) [] ≡ get_or (links L i k ++ drop (first_of S k) ts) p []
  link_at p = let is : link_place S k + p ≡ leads k + (first_of S k + p) = omega arith in ap (λ z. get_or shows z []) is ∙ behind_lead (first_of S k + p) ∙ behind_first p

  pub shown_head : owns_members k ≡ true → get_or shows (link_place S k + head_link k) [] ≡ shown (head_or 0 (members L i))
  shown_head e = link_at (head_link k) ∙ head_shown L i k _ e

  pub shown_tail : owns_members k ≡ true → get_or shows (link_place S k + (head_link k + 1)) [] ≡ shown (last_or 0 (members L i))
  shown_tail e = link_at (head_link k + 1) ∙ tail_shown L i k _ e
