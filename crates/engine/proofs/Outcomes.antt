-- Outcomes, put one for another. Assumes nothing.
use Rattle.std.proofs.Common.{◌≡◌, ℕ, if◌then◌else◌, ◌==◌, List, [], length, slice_index_or, drop, Some, Option, Result, sym, refl, ap, ◌∙◌, subst}
use Rattle.std.proofs.lemmas.Bool.{ne_eqb}
use Rattle.make.specs.declared.rules.Make.{Ghosts as MakeOf}
use Rattle.make.specs.Data.{MakeSpec}
use Rattle.chain.specs.Entry.{number}
use Rattle.chain.specs.declared.link.Branch.{Branch}
use Rattle.chain.specs.declared.link.Branch.TheVariants.{First, Second}
use Rattle.chain.specs.declared.link.Chain.TheVariants.{Members}
use Rattle.chain.specs.declared.link.Index.{Index}
use Rattle.pool.specs.declared.pool.Pool.{Pool}
use Rattle.ledger.specs.declared.command.Command.{Command}
use Rattle.ledger.specs.declared.refusal.Refusal.{Refusal}
use Rattle.ledger.specs.Ledger.{Store}
use Rattle.ledger.specs.Ledger.{holding}
use Rattle.ledger.specs.Records.{target}
use Rattle.ledger.specs.Replies.{shown_record}
use Rattle.ledger.specs.Steps.{Outcome, at, says, sets, read_or_set, done}
use Rattle.memory.specs.View.{store_of}
use Rattle.reply.specs.declared.brief.Brief.{Brief}
use Rattle.reply.specs.declared.told.Told.{Told}
use Rattle.engine.specs.Chains.{chain_under}
use Rattle.engine.specs.Gives.{Gives, GivesBrief}

module _ {M R : Type 0} (make : MakeOf M R) (p p' : Pool R) (c : Command) (r : Result (Told R) Refusal) where
  -- what it gives by one account, it gives by another that says the same of this store
  pub gives_as : (x y : Store → Outcome) → Gives make p p' c r x → x (store_of make p) ≡ y (store_of make p) → Gives make p p' c r y
  gives_as x y h e =
      let P : Outcome → Type 0 = λ o. Gives make p p' c r (λ L. o) in
      let there : P (x (store_of make p)) = record { said = h.said; shows = h.shows; store = h.store; records = h.records; spared = h.spared } in
      let here : P (y (store_of make p)) = subst P e there in
      record { said = here.said; shows = here.shows; store = here.store; records = here.records; spared = here.spared }

  -- what is done at the record that a text names
  pub gives_at : (t : Store → Option ℕ) (i : ℕ) (k : Store → ℕ → Outcome) → Gives make p p' c r (λ L. k L i) → t (store_of make p) ≡ Some i → Gives make p p' c r (λ L. at L (t L) (k L))
  gives_at t i k h e = gives_as (λ L. k L i) (λ L. at L (t L) (k L)) h (sym (ap (λ z. at (store_of make p) z (k (store_of make p))) e))

module _ {M R : Type 0} (make : MakeOf M R) (p p' : Pool R) (c : Command) (r : Result Brief Refusal) where
  -- the same of what it gives in brief
  pub brief_as : (x y : Store → Outcome) → GivesBrief make p p' c r x → x (store_of make p) ≡ y (store_of make p) → GivesBrief make p p' c r y
  brief_as x y h e =
      let P : Outcome → Type 0 = λ o. GivesBrief make p p' c r (λ L. o) in
      let there : P (x (store_of make p)) = record { said = h.said; shows = h.shows; store = h.store; records = h.records; spared = h.spared } in
      let here : P (y (store_of make p)) = subst P e there in
      record { said = here.said; shows = here.shows; store = here.store; records = here.records; spared = here.spared }

  -- what is done at the record that a text names, in brief
  pub brief_at : (t : Store → Option ℕ) (i : ℕ) (k : Store → ℕ → Outcome) → GivesBrief make p p' c r (λ L. k L i) → t (store_of make p) ≡ Some i → GivesBrief make p p' c r (λ L. at L (t L) (k L))
  brief_at t i k h e = brief_as (λ L. k L i) (λ L. at L (t L) (k L)) h (sym (ap (λ z. at (store_of make p) z (k (store_of make p))) e))

-- a command with one index, done at the record that the index names
pub one_done : (S : MakeSpec) (L : Store) (F : Command → ℕ → Outcome) (c k : Command) (t : List ℕ) (fs : List (List ℕ)) → c ≡ k → t ≡ slice_index_or fs 0 [] → at L (target L k (slice_index_or fs 0 [])) (F k) ≡ done S L k fs → at L (target L c t) (F c) ≡ done S L c fs
one_done S L F c k t fs is e d =
    ap (λ z. at L (target L c z) (F c)) e ∙ ap (λ (z : Command). at L (target L z (slice_index_or fs 0 [])) (F z)) is ∙ d ∙ ap (λ (z : Command). done S L z fs) (sym is)

-- the same of what a command gives
pub gives_done : {M R : Type 0} (make : MakeOf M R) (p p' : Pool R) (c : Command) (r : Result (Told R) Refusal) (F : Store → Command → ℕ → Outcome) (k : Command) (t : List ℕ) (fs : List (List ℕ)) → Gives make p p' c r (λ L. at L (target L c t) (F L c)) → c ≡ k → t ≡ slice_index_or fs 0 [] → ((L : Store) → at L (target L k (slice_index_or fs 0 [])) (F L k) ≡ done make.spec L k fs) → Gives make p p' c r (λ L. done make.spec L c fs)
gives_done make p p' c r F k t fs h is e d =
    gives_as make p p' c r (λ L. at L (target L c t) (F L c)) (λ L. done make.spec L c fs) h (one_done make.spec (store_of make p) (F (store_of make p)) c k t fs is e (d (store_of make p)))

-- the same of what it gives in brief
pub brief_done : {M R : Type 0} (make : MakeOf M R) (p p' : Pool R) (c : Command) (r : Result Brief Refusal) (F : Store → Command → ℕ → Outcome) (k : Command) (t : List ℕ) (fs : List (List ℕ)) → GivesBrief make p p' c r (λ L. at L (target L c t) (F L c)) → c ≡ k → t ≡ slice_index_or fs 0 [] → ((L : Store) → at L (target L k (slice_index_or fs 0 [])) (F L k) ≡ done make.spec L k fs) → GivesBrief make p p' c r (λ L. done make.spec L c fs)
brief_done make p p' c r F k t fs h is e d =
    brief_as make p p' c r (λ L. at L (target L c t) (F L c)) (λ L. done make.spec L c fs) h (one_done make.spec (store_of make p) (F (store_of make p)) c k t fs is e (d (store_of make p)))

-- a line with an index and more fields sets the record
pub set_done : (S : MakeSpec) (L : Store) (c : Command) (i : ℕ) (t : List ℕ) (fs rest : List (List ℕ)) → t ≡ slice_index_or fs 0 [] → rest ≡ drop 1 fs → target L c t ≡ Some i → (length fs ≡ 1 → ⊥) → sets S L c i (holding L i) rest ≡ read_or_set S L c fs
set_done S L c i t fs rest e d here more =
    ap (sets S L c i (holding L i)) d
    ∙ sym (ap (λ (z : Option ℕ). at L z (λ j. if length fs == 1 then says L c (shown_record S L j (holding L j)) else sets S L c j (holding L j) (drop 1 fs))) (ap (target L c) (sym e) ∙ here)
    ∙ ap (λ b. if b then says L c (shown_record S L i (holding L i)) else sets S L c i (holding L i) (drop 1 fs)) (ne_eqb (length fs) 1 more))

-- an index and more fields set the record
pub gives_set : {M R : Type 0} (make : MakeOf M R) (p p' : Pool R) (c : Command) (r : Result (Told R) Refusal) (i : ℕ) (t : List ℕ) (fs rest : List (List ℕ)) → Gives make p p' c r (λ L. sets make.spec L c i (holding L i) rest) → t ≡ slice_index_or fs 0 [] → rest ≡ drop 1 fs → target (store_of make p) c t ≡ Some i → (length fs ≡ 1 → ⊥) → Gives make p p' c r (λ L. read_or_set make.spec L c fs)
gives_set make p p' c r i t fs rest h e d here more =
    gives_as make p p' c r (λ L. sets make.spec L c i (holding L i) rest) (λ L. read_or_set make.spec L c fs) h (set_done make.spec (store_of make p) c i t fs rest e d here more)

-- the same in brief
pub brief_set : {M R : Type 0} (make : MakeOf M R) (p p' : Pool R) (c : Command) (r : Result Brief Refusal) (i : ℕ) (t : List ℕ) (fs rest : List (List ℕ)) → GivesBrief make p p' c r (λ L. sets make.spec L c i (holding L i) rest) → t ≡ slice_index_or fs 0 [] → rest ≡ drop 1 fs → target (store_of make p) c t ≡ Some i → (length fs ≡ 1 → ⊥) → GivesBrief make p p' c r (λ L. read_or_set make.spec L c fs)
brief_set make p p' c r i t fs rest h e d here more =
    brief_as make p p' c r (λ L. sets make.spec L c i (holding L i) rest) (λ L. read_or_set make.spec L c fs) h (set_done make.spec (store_of make p) c i t fs rest e d here more)

-- a chain of members, by number
pub chain_under_is : (o : Index) (b : Branch) → number (Members o b) ≡ chain_under b o.number
chain_under_is o First = refl
chain_under_is o Second = refl
