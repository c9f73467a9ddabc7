-- A table of sorts that passes its test is a make that keeps the rules. Assumes nothing.
use Rattle.std.proofs.Common.{◌≡◌, ℕ, zero, suc, ◌<◌, ◌≤◌, Bool, true, false, not, ◌&&◌, leb, List, [], ◌∷◌, length, get_or, sym, refl, ap, ◌∙◌, ⊎_elim, arith}
use Rattle.std.specs.Str.{bytes_eq}
use Rattle.std.specs.List.{list_all}
use Rattle.std.proofs.Math.ListN.{get_or-map}
use Rattle.std.proofs.lemmas.List.{length-map}
use Rattle.std.proofs.lemmas.List.Folds.{list_all_at}
use Rattle.std.proofs.lemmas.Slice.Eq.{bytes_eq-Decides}
use Rattle.std.proofs.lemmas.Bool.{and_parts, both_ways, cases_Bool, leb-true, not-true}
use Rattle.make.specs.declared.kind.Kind.{Kind}
use Rattle.make.specs.declared.kind.Kind.TheVariants.{System, Site, ChannelGroup, TalkgroupGroup, Channel, Talkgroup, TrunkFrequency}
use Rattle.make.specs.Data.{reserve, reserve_name, name_at, legal_at, standard_at}
use Rattle.make.specs.Rules.{FieldKeeps, Keeps}
use Rattle.make.specs.Shapes.{type_name, field_name}
use Rattle.sorts.specs.Sorts.{legal_in, standard_in, sort_fine, is_reserve_sort}
use Rattle.sorts.specs.Plans.{Row, Part, Plan, reserve_row, part_of, row_at, sort_at, field_of, fields_from, spec_of, same, row_fine, rows_fine, part_fine, names_fine, none, apart, plan_fine}
use Rattle.sorts.proofs.SortLaws.{settled, stable, shaped, started, reserved}

same_true : (a b : Bool) → same a b ≡ true → a ≡ b
same_true true b h = sym h
same_true false b h = sym (not-true b h)

-- a row that passes keeps the rules for fields
pub row_keeps : (R : Row) → row_fine R ≡ true → FieldKeeps (field_of R)
row_keeps R h =
    let p = and_parts (field_name R.name) _ h in
    let q = and_parts (same (bytes_eq R.name reserve_name) (is_reserve_sort R.sort)) (sort_fine R.sort) p.1 in
    let e = same_true (bytes_eq R.name reserve_name) (is_reserve_sort R.sort) q.0 in
    record {
      named = p.0;
      shaped = shaped R.sort;
      settled = settled R.sort;
      stable = stable R.sort;
      started = λ n. started R.sort q.1 (sym e ∙ n);
      reserved = λ n. reserved R.sort (sym e ∙ n);
    }

reserve_keeps : FieldKeeps reserve
reserve_keeps = row_keeps reserve_row refl

rows_keep : (Rs : List Row) → rows_fine Rs ≡ true → (f : ℕ) → FieldKeeps (get_or (fields_from Rs) f reserve)
rows_keep [] h f = reserve_keeps
rows_keep (R ∷ Rs) h zero = row_keeps R (and_parts (row_fine R) (rows_fine Rs) h).0
rows_keep (R ∷ Rs) h (suc f) = rows_keep Rs (and_parts (row_fine R) (rows_fine Rs) h).1 f

record PartKeeps (p : Part) : Type 0 where
  one_field : 1 ≤ length (fields_from p.rows)
  few_fields : length (fields_from p.rows) ≤ 20
  fronted : p.first ≤ length (fields_from p.rows)
  field : (f : ℕ) → FieldKeeps (get_or (fields_from p.rows) f reserve)

part_keeps : (p : Part) → part_fine p ≡ true → PartKeeps p
part_keeps p h =
    let a = and_parts (leb 1 (length p.rows) && leb (length p.rows) 20) _ h in
    let b = and_parts (leb 1 (length p.rows)) (leb (length p.rows) 20) a.0 in
    let c = and_parts (leb p.first (length p.rows)) (rows_fine p.rows) a.1 in
    let n = length-map p.rows field_of in
    let low = leb-true 1 (length p.rows) b.0 in
    let high = leb-true (length p.rows) 20 b.1 in
    let first = leb-true p.first (length p.rows) c.0 in
    record { one_field = omega arith; few_fields = omega arith; fronted = omega arith; field = rows_keep p.rows c.1 }

-- an element of a list whose elements all pass a test
passes : {X : Type 0} (p : X → Bool) (xs : List X) (d : X) → list_all p xs ≡ true → (n : ℕ) → n < length xs → p (get_or xs n d) ≡ true
passes p xs d h n l = ⊎_elim (λ e. e) (λ e. absurd (both_ways (list_all p xs) (list_all_at p xs n d l e) h)) (cases_Bool (p (get_or xs n d)))

-- names of types
none_at : (t : List ℕ) (us : List (List ℕ)) → none t us ≡ true → (n : ℕ) → n < length us → t ≡ get_or us n [] → ⊥
none_at t us h n l e =
    let u = get_or us n [] in
    both_ways (bytes_eq t u) (not-true (bytes_eq t u) (passes (λ u. not (bytes_eq t u)) us [] h n l)) ((bytes_eq-Decides t u).1 e)

names_apart : (ts : List (List ℕ)) → apart ts ≡ true → (m n : ℕ) → m < n → n < length ts → get_or ts m [] ≡ get_or ts n [] → ⊥
names_apart [] h m n l k e = omega arith
names_apart (t ∷ ts) h m zero l k e = omega arith
names_apart (t ∷ ts) h zero (suc n) l k e = none_at t ts (and_parts (none t ts) (apart ts) h).0 n (omega arith) e
names_apart (t ∷ ts) h (suc m) (suc n) l k e = names_apart ts (and_parts (none t ts) (apart ts) h).1 m n (omega arith) (omega arith) e

record Parts (P : Plan) : Type 0 where
  most : (leb 1 P.most ≡ true) × (leb P.most 45000 ≡ true)
  few : (leb 2 (length P.types) ≡ true) × (leb (length P.types) 12 ≡ true)
  names : (names_fine P.types ≡ true) × (apart P.types ≡ true)
  kinds : (k : Kind) → PartKeeps (part_of P k)

parts : (P : Plan) → plan_fine P ≡ true → Parts P
parts P h =
    let a = and_parts ((leb 1 P.most && leb P.most 45000) && ((leb 2 (length P.types) && leb (length P.types) 12) && (names_fine P.types && apart P.types))) _ h in
    let b = and_parts (leb 1 P.most && leb P.most 45000) _ a.0 in
    let c = and_parts (leb 2 (length P.types) && leb (length P.types) 12) _ b.1 in
    let k1 = and_parts (part_fine P.system) _ a.1 in
    let k2 = and_parts (part_fine P.site) _ k1.1 in
    let k3 = and_parts (part_fine P.group) _ k2.1 in
    let k4 = and_parts (part_fine P.channel) _ k3.1 in
    let k5 = and_parts (part_fine P.talkgroup) (part_fine P.trunk) k4.1 in
    record {
      most = and_parts (leb 1 P.most) _ b.0;
      few = and_parts (leb 2 (length P.types)) _ c.0;
      names = and_parts (names_fine P.types) _ c.1;
      kinds = λ k. elim k as (λ k. PartKeeps (part_of P k)) [
        | System ↦ part_keeps P.system k1.0
        | Site ↦ part_keeps P.site k2.0
        | ChannelGroup ↦ part_keeps P.group k3.0
        | TalkgroupGroup ↦ part_keeps P.group k3.0
        | Channel ↦ part_keeps P.channel k4.0
        | Talkgroup ↦ part_keeps P.talkgroup k5.0
        | TrunkFrequency ↦ part_keeps P.trunk k5.1
      ];
    }

pub plan_keeps : (P : Plan) → plan_fine P ≡ true → Keeps (spec_of P)
plan_keeps P h =
    let p = parts P h in
    record {
      some = leb-true 1 P.most p.most.0;
      bounded = leb-true P.most 45000 p.most.1;
      two_types = leb-true 2 (length P.types) p.few.0;
      few_types = leb-true (length P.types) 12 p.few.1;
      typed = passes type_name P.types [] p.names.0;
      apart = names_apart P.types p.names.1;
      groups = refl;
      one_field = λ k. (p.kinds k).one_field;
      few_fields = λ k. (p.kinds k).few_fields;
      fronted = λ k. (p.kinds k).fronted;
      field = λ k. (p.kinds k).field;
    }

-- the field of a number is the one that its row says
field_at : (Rs : List Row) (f : ℕ) → get_or (fields_from Rs) f reserve ≡ field_of (get_or Rs f reserve_row)
field_at Rs f = get_or-map field_of Rs f reserve_row

pub legal_at_lem : (P : Plan) (k : Kind) (f : ℕ) (t : List ℕ) → legal_at (spec_of P) k f t ≡ legal_in (sort_at P k f) t
legal_at_lem P k f t = ap (λ F. F.legal t) (field_at (part_of P k).rows f)

pub standard_at_lem : (P : Plan) (k : Kind) (f : ℕ) (t : List ℕ) → standard_at (spec_of P) k f t ≡ standard_in (sort_at P k f) t
standard_at_lem P k f t = ap (λ F. F.standard t) (field_at (part_of P k).rows f)

pub name_at_lem : (P : Plan) (k : Kind) (f : ℕ) → name_at (spec_of P) k f ≡ (row_at P k f).name
name_at_lem P k f = ap (λ F. F.name) (field_at (part_of P k).rows f)
