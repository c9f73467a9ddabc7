-- The fields of a set line, written into a record one after the other. Assumes nothing.
use Rattle.std.proofs.Common.{◌≡◌, ℕ, ◌+◌, true, List, [], ◌∷◌, set, sym, refl, ap, ◌∙◌, subst}
use Rattle.std.proofs.lemmas.Bool.{and_parts}
use Rattle.make.specs.declared.kind.Kind.{Kind}
use Rattle.make.specs.declared.rules.Make.{Ghosts as MakeOf}
use Rattle.make.specs.Data.{MakeSpec, legal_at, standard_at}
use Rattle.ledger.specs.Texts.{field_legal, fields_legal, field_set, fields_set}
use Rattle.ledger.specs.Ledger.{Holding, type_for}
use Rattle.memory.specs.View.{meaning}
use Rattle.line.specs.Written.{field_written, fields_written}

-- what one record means, by another
pub record Written {M R : Type 0} (make : MakeOf M R) (r w : R) (ts : List (List ℕ)) : Type 0 where
  pub kind : make.kindof w ≡ make.kindof r
  pub type : make.systemtype w ≡ make.systemtype r
  pub shown : make.texts w ≡ ts

module _ {M R : Type 0} (S : MakeSpec) (make : MakeOf M R)
    (accepted : (r : R) (f : ℕ) (t : List ℕ) → legal_at S (make.kindof r) f t ≡ true → make.texts (make.written r f t) ≡ set (make.texts r) f (standard_at S (make.kindof r) f t))
    (writtenkind : (r : R) (f : ℕ) (t : List ℕ) → make.kindof (make.written r f t) ≡ make.kindof r)
    (writtentype : (r : R) (f : ℕ) (t : List ℕ) → make.systemtype (make.written r f t) ≡ make.systemtype r) where
  one : (r : R) (f : ℕ) (t : List ℕ) → field_legal S (make.kindof r) f t ≡ true → Written make r (field_written make.written r f t) (field_set S (make.kindof r) f t (make.texts r))
  one r f [] h = record { kind = refl; type = refl; shown = refl }
  one r f (c ∷ t) h = record { kind = writtenkind r f (c ∷ t); type = writtentype r f (c ∷ t); shown = accepted r f (c ∷ t) h }

  pub all : (r : R) (f : ℕ) (ts : List (List ℕ)) → fields_legal S (make.kindof r) f ts ≡ true → Written make r (fields_written make.written r f ts) (fields_set S (make.kindof r) f ts (make.texts r))
  all r f [] h = record { kind = refl; type = refl; shown = refl }
  all r f (t ∷ ts) h =
      let p = and_parts (field_legal S (make.kindof r) f t) (fields_legal S (make.kindof r) (f + 1) ts) h in
      let o = one r f t p.0 in
      let w = field_written make.written r f t in
      let rest = all w (f + 1) ts (subst (λ (k : Kind). fields_legal S k (f + 1) ts ≡ true) (sym o.kind) p.1) in
      record {
        kind = rest.kind ∙ o.kind;
        type = rest.type ∙ o.type;
        shown = rest.shown ∙ ap (λ (k : Kind). fields_set S k (f + 1) ts (make.texts w)) o.kind ∙ ap (fields_set S (make.kindof r) (f + 1) ts) o.shown;
      }

-- what a record means after the fields of a set line
pub means_written : {M R : Type 0} (S : MakeSpec) (make : MakeOf M R) (r w : R) (ts : List (List ℕ)) → Written make r w (fields_set S (make.kindof r) 0 ts (make.texts r)) → (h : Holding) → meaning make r ≡ h → meaning make w ≡ record { kind = h.kind; system_type = h.system_type; texts = fields_set S h.kind 0 ts h.texts }
means_written S make r w ts e h is =
    let type : type_for (make.kindof w) (make.systemtype w) ≡ type_for (make.kindof r) (make.systemtype r) = ap (λ (z : Kind). type_for z (make.systemtype w)) e.kind ∙ ap (type_for (make.kindof r)) e.type in
    let first : meaning make w ≡ record { kind = make.kindof r; system_type = type_for (make.kindof r) (make.systemtype r); texts = fields_set S (make.kindof r) 0 ts (make.texts r) } = λ i. record { kind = e.kind i; system_type = type i; texts = e.shown i } in
    first ∙ ap (λ (z : Holding). record { kind = z.kind; system_type = z.system_type; texts = fields_set S z.kind 0 ts z.texts }) is
