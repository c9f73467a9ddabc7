-- No number that a memory gives is above the block count. Assumes nothing.
use Rattle.std.proofs.Common.{◌≡◌, ℕ, zero, suc, ◌+◌, ◌-◌, ◌≤◌, Bool, true, false, cond, eqb, List, [], ◌∷◌, length, Some, None, Option, sym, refl, ap, ◌∙◌, subst, inl, inr, arith}
use native.Mathlib.Bridge.{le_prop}
use mathlib.Core.HLevel.{×_prop}
use Rattle.std.proofs.lemmas.Bool.{cases_lt, ltb-true}
use Rattle.chain.specs.declared.chains.Chains.{Chains}
use Rattle.chain.specs.declared.link.Index.{Index}
use Rattle.chain.specs.declared.link.Branch.TheVariants.{First, Second}
use Rattle.chain.specs.declared.link.Chain.{Chain}
use Rattle.chain.specs.declared.link.Chain.TheVariants.{Root, Members}
use Rattle.chain.specs.Entry.{number, chain_at, found}
use Rattle.chain.specs.Rows.{head_or, last_or, occ}
use Rattle.chain.specs.Blocks.{occ_all, home_of, owner_of, row_of, next_of, prev_from, next_in, prev_in, is_used}
use Rattle.chain.specs.View.{blocks_of, chain_of, free_of}
use Rattle.chain.proofs.Numbers.{Owned, at_owned, number_at}
use Rattle.chain.proofs.Keeps.{tick_same}
use Rattle.chain.proofs.Counts.{chain_within, len_one, front_in}
use Rattle.chain.proofs.Homes.{home_none, home_some}
use Rattle.chain.proofs.Seen.{by_view, by_sound, loose}
use Rattle.pool.specs.declared.sequence.SequenceNumber.{SequenceNumber}
use Rattle.pool.specs.Walks.{sequence, place_from, place_in}
use Rattle.ledger.specs.Ledger.{number_of}
use Rattle.reply.specs.Shown.{Proper}

-- every number of a list is at most n
abbrev Upto : ℕ → List ℕ → Type 0
Upto n xs = (i : ℕ) → 1 ≤ occ i xs → i ≤ n

upto_rest : (n y : ℕ) (ys : List ℕ) → Upto n (y ∷ ys) → Upto n ys
upto_rest n y ys u i h = u i (omega (arith, h))

upto_first : (n y : ℕ) (ys : List ℕ) → Upto n (y ∷ ys) → y ≤ n
upto_first n y ys u = u y (omega (arith, tick_same y))

head_upto : (n : ℕ) (xs : List ℕ) → Upto n xs → head_or 0 xs ≤ n
head_upto n [] u = omega arith
head_upto n (x ∷ xs) u = upto_first n x xs u

last_upto : (n z : ℕ) (xs : List ℕ) → z ≤ n → Upto n xs → last_or z xs ≤ n
last_upto n z [] h u = h
last_upto n z (x ∷ xs) h u = last_upto n x xs (upto_first n x xs u) (upto_rest n x xs u)

next_upto : (n x : ℕ) (xs : List ℕ) → Upto n xs → next_of x xs ≤ n
next_upto n x [] u = omega arith
next_upto n x (y ∷ ys) u = by (eqb x y) (head_upto n ys (upto_rest n y ys u)) (next_upto n x ys (upto_rest n y ys u)) where
  by : (b : Bool) → head_or 0 ys ≤ n → next_of x ys ≤ n → cond b (head_or 0 ys) (next_of x ys) ≤ n
  by true h r = h
  by false h r = r

prev_upto : (n z x : ℕ) (xs : List ℕ) → z ≤ n → Upto n xs → prev_from z x xs ≤ n
prev_upto n z x [] h u = omega arith
prev_upto n z x (y ∷ ys) h u = by (eqb x y) (prev_upto n y x ys (upto_first n y ys u) (upto_rest n y ys u)) where
  by : (b : Bool) → prev_from y x ys ≤ n → cond b z (prev_from y x ys) ≤ n
  by true r = h
  by false r = r

place_most : (k x : ℕ) (xs : List ℕ) → place_from k xs x ≤ k + length xs - 1
place_most k x [] = omega arith
place_most k x (y ∷ ys) = by (eqb y x) (place_most (suc k) x ys) where
  by : (b : Bool) → place_from (suc k) ys x ≤ suc k + length ys - 1 → cond b k (place_from (suc k) ys x) ≤ k + length (y ∷ ys) - 1
  by true r = omega arith
  by false r = omega (arith, r)

number_found : (n : ℕ) → number_of (found n) ≡ n
number_found zero = refl
number_found (suc n) = refl

-- an index that was found can be shown
pub proper : (r : Option Index) (n : ℕ) → r ≡ found n → n ≤ 45000 → Proper r
proper r n e few =
    let m : number_of r ≡ n = ap number_of e ∙ number_found n in
    record { block = e ∙ ap found (sym m); short = omega (arith, m, few) }

pub number_is : (r : Option Index) (n : ℕ) → r ≡ found n → number_of r ≡ n
number_is r n e = ap number_of e ∙ number_found n

-- the owner of a chain that has one is a block
some_block : (i : Index) (n : ℕ) → i.number ≡ n → 1 ≤ n → Some i ≡ found n
some_block i zero e o = absurd (omega arith)
some_block i (suc n) e o = λ k. Some (record { number = e k })

owner_at : (n : ℕ) (c : Chain) → Owned c → number c ≤ n + n → (number_of (owner_of (Some c)) ≤ n) × (owner_of (Some c) ≡ found (number_of (owner_of (Some c))))
owner_at n Root o h = (omega arith, refl)
owner_at n (Members i First) o h = (omega (arith, o, h), some_block i i.number refl o)
owner_at n (Members i Second) o h = (omega (arith, o, h), some_block i i.number refl o)

module _ (p : Chains) where
  chain_upto : (c : ℕ) → Upto p.tables.count (chain_of p c)
  chain_upto c i h = by_view p.tables _ le_prop (loose p.tables p.sound) (λ k. (chain_within _ _ _ _ _ k.kept c i h).0.1)

  row_upto : (h : Option Chain) → Upto p.tables.count (row_of (blocks_of p) h)
  row_upto None i h = absurd (omega (arith, h))
  row_upto (Some c) i h = chain_upto (number c) i h

  pub next_bound : (x : ℕ) → next_in (blocks_of p) x ≤ p.tables.count
  next_bound x = next_upto p.tables.count x _ (row_upto (home_of (blocks_of p) x))

  pub previous_bound : (x : ℕ) → prev_in (blocks_of p) x ≤ p.tables.count
  previous_bound x = prev_upto p.tables.count 0 x _ (omega arith) (row_upto (home_of (blocks_of p) x))

  pub head_bound : (c : ℕ) → head_or 0 (chain_of p c) ≤ p.tables.count
  head_bound c = head_upto p.tables.count _ (chain_upto c)

  pub tail_bound : (c : ℕ) → last_or 0 (chain_of p c) ≤ p.tables.count
  tail_bound c = last_upto p.tables.count 0 _ (omega arith) (chain_upto c)

  pub front_bound : head_or 0 (free_of p) ≤ p.tables.count
  front_bound = by_view p.tables _ le_prop (loose p.tables p.sound) (λ k. front_in p.tables.count _ (free_of p) k.kept.stack)

  pub spare_bound : length (free_of p) ≤ p.tables.count
  spare_bound = by_sound p.tables _ le_prop p.sound (λ k. omega (arith, k.full))

  pub length_bound : (c : ℕ) → length (chain_of p c) ≤ p.tables.count
  length_bound c = by_sound p.tables _ le_prop p.sound (λ k. omega (arith, k.full, len_one c ((blocks_of p).chains)))

  row_length : (h : Option Chain) → length (row_of (blocks_of p) h) ≤ p.tables.count
  row_length None = omega arith
  row_length (Some c) = length_bound (number c)

  pub place_bound : (x : ℕ) → place_in (row_of (blocks_of p) (home_of (blocks_of p) x)) x ≤ p.tables.count
  place_bound x = omega (arith, place_most 1 x (row_of (blocks_of p) (home_of (blocks_of p) x)), row_length (home_of (blocks_of p) x))

  owner_found : (x : ℕ) → (number_of (owner_of (home_of (blocks_of p) x)) ≤ p.tables.count) × (owner_of (home_of (blocks_of p) x) ≡ found (number_of (owner_of (home_of (blocks_of p) x))))
  owner_found x = elim (cases_lt 0 (occ_all x ((blocks_of p).chains))) [
    | inl some ↦
        let r = home_some ((blocks_of p).chains) 0 x some in
        let within : r.c ≤ p.tables.count + p.tables.count = by_view p.tables _ le_prop (loose p.tables p.sound) (λ k. (chain_within _ _ _ _ _ k.kept r.c x r.there).1) in
        let zero_plus : 0 + r.c ≡ r.c = omega arith in
        let here : home_of (blocks_of p) x ≡ Some (chain_at r.c) = r.home ∙ ap (λ z. Some (chain_at z)) zero_plus in
        let P : Option Chain → Type 0 = λ h. (number_of (owner_of h) ≤ p.tables.count) × (owner_of h ≡ found (number_of (owner_of h))) in
        subst P (sym here) (owner_at p.tables.count (chain_at r.c) (at_owned r.c) (omega (arith, within, number_at r.c)))
    | inr none ↦
        let P : Option Chain → Type 0 = λ h. (number_of (owner_of h) ≤ p.tables.count) × (owner_of h ≡ found (number_of (owner_of h))) in
        subst P (sym (home_none ((blocks_of p).chains) 0 x (omega (arith, none)))) (omega arith, refl)
  ]

  pub owner_proper : (x : ℕ) (r : Option Index) → r ≡ owner_of (home_of (blocks_of p) x) → p.tables.count ≤ 45000 → Proper r
  owner_proper x r e few = let o = owner_found x in proper r (number_of (owner_of (home_of (blocks_of p) x))) (e ∙ o.1) (omega (arith, o.0, few))

  -- a block in use is one of the blocks
  pub used_bound : (x : ℕ) → is_used (blocks_of p) x ≡ true → (1 ≤ x) × (x ≤ p.tables.count)
  used_bound x u =
      let some : 1 ≤ occ_all x ((blocks_of p).chains) = ltb-true 0 (occ_all x ((blocks_of p).chains)) u in
      let r = home_some ((blocks_of p).chains) 0 x some in
      by_view p.tables _ (×_prop le_prop le_prop) (loose p.tables p.sound) (λ k. (chain_within _ _ _ _ _ k.kept r.c x r.there).0)

-- a place in a chain as a number
pub some_place : (n : ℕ) (s : SequenceNumber) → Some s ≡ sequence n → s.place ≡ n
some_place zero s e = let x : ◌≡◌ {A = ℕ} 0 1 = cc in absurd (omega arith)
some_place (suc n) s e = ap (λ (z : SequenceNumber). z.place) (let h : s ≡ record { place = suc n } = cc in h)

pub no_place : (n : ℕ) → ◌≡◌ {A = Option SequenceNumber} None (sequence n) → 0 ≡ n
no_place zero e = refl
no_place (suc n) e = let x : ◌≡◌ {A = ℕ} 0 1 = cc in absurd (omega arith)
