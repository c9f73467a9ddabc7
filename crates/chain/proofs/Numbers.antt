-- Chains and their numbers. Assumes nothing.
use Rattle.std.proofs.Common.{◌≡◌, ℕ, zero, suc, ◌+◌, ◌≤◌, is_some, Some, None, Option, sym, refl, ap, ◌∙◌, arith}
use Rattle.std.proofs.lemmas.Bool.{false≢true}
use Rattle.chain.specs.declared.link.Index.{Index}
use Rattle.chain.specs.declared.link.Branch.TheVariants.{First, Second}
use Rattle.chain.specs.declared.link.Chain.{Chain}
use Rattle.chain.specs.declared.link.Chain.TheVariants.{Root, Members}
use Rattle.chain.specs.declared.link.Ends.{Ends}
use Rattle.chain.specs.Entry.{Entry, found, first_of, second_of, number, after, chain_at, Within, ends_in, ends_at}

-- the owner is a block
abbrev pub Owned : Chain → Type 0
Owned Root = Unit {0}
Owned (Members i b) = 1 ≤ i.number

after_owned : (c : Chain) → Owned c → Owned (after c)
after_owned Root o = omega arith
after_owned (Members i First) o = o
after_owned (Members i Second) o = omega (arith, o)

after_number : (c : Chain) → Owned c → number (after c) ≡ suc (number c)
after_number Root o = refl
after_number (Members i First) o = omega (arith, o)
after_number (Members i Second) o = omega (arith, o)

pub at_owned : (c : ℕ) → Owned (chain_at c)
at_owned zero = tt
at_owned (suc c) = after_owned (chain_at c) (at_owned c)

pub number_at : (c : ℕ) → number (chain_at c) ≡ c
number_at zero = refl
number_at (suc c) = after_number (chain_at c) (at_owned c) ∙ ap suc (number_at c)

same_index : (i j : Index) → i.number ≡ j.number → i ≡ j
same_index i j e = λ k. record { number = e k }

same_number : (c d : Chain) → Owned c → Owned d → number c ≡ number d → c ≡ d
same_number Root Root o p e = refl
same_number Root (Members j First) o p e = absurd (omega (arith, e, p))
same_number Root (Members j Second) o p e = absurd (omega (arith, e, p))
same_number (Members i First) Root o p e = absurd (omega (arith, e, o))
same_number (Members i Second) Root o p e = absurd (omega (arith, e, o))
same_number (Members i First) (Members j First) o p e = ap (λ k. Members k First) (same_index i j (omega (arith, e, o, p)))
same_number (Members i First) (Members j Second) o p e = absurd (omega (arith, e, o, p))
same_number (Members i Second) (Members j First) o p e = absurd (omega (arith, e, o, p))
same_number (Members i Second) (Members j Second) o p e = ap (λ k. Members k Second) (same_index i j (omega (arith, e)))

pub at_number : (c : Chain) → Owned c → chain_at (number c) ≡ c
at_number c o = same_number (chain_at (number c)) c (at_owned (number c)) o (number_at (number c))

pub within_owned : (n : ℕ) (c : Chain) → Within n c → Owned c
within_owned n Root w = tt
within_owned n (Members i First) w = w.0
within_owned n (Members i Second) w = w.0

pub within_number : (n : ℕ) (c : Chain) → Within n c → number c ≤ n + n
within_number n Root w = omega arith
within_number n (Members i First) w = omega (arith, w)
within_number n (Members i Second) w = omega (arith, w)

pub number_within : (n : ℕ) (c : Chain) → Owned c → number c ≤ n + n → Within n c
number_within n Root o h = tt
number_within n (Members i First) o h = (o, omega (arith, o, h))
number_within n (Members i Second) o h = (o, omega (arith, o, h))

pub within_more : (n m : ℕ) (c : Chain) → n ≤ m → Within n c → Within m c
within_more n m Root h w = tt
within_more n m (Members i First) h w = (w.0, omega (arith, h, w))
within_more n m (Members i Second) h w = (w.0, omega (arith, h, w))

-- the ends of a chain, and of the chains of a block, by number
pub ends_number : (root : Ends) (f : ℕ → Entry) (c : Chain) → Owned c → ends_at root f (number c) ≡ ends_in root f c
ends_number root f c o = ap (ends_in root f) (at_number c o)

pub ends_first : (root : Ends) (f : ℕ → Entry) (i : ℕ) → 1 ≤ i → ends_at root f (first_of i) ≡ (f i).first
ends_first root f i h = ends_number root f (Members (record { number = i }) First) h

pub ends_second : (root : Ends) (f : ℕ → Entry) (i : ℕ) → 1 ≤ i → ends_at root f (second_of i) ≡ (f i).second
ends_second root f i h = ends_number root f (Members (record { number = i }) Second) h

-- a place by number
pub placed : Option Chain → ℕ
placed None = 0
placed (Some c) = suc (number c)

pub none_not : (c : Chain) → None ≡ Some c → ⊥
unfolding placed
none_not c e = omega (arith, ap placed e)

-- each place has its own code, so that two places are equal in one way at most
pub code : Option Chain → ℕ
code None = 0
code (Some Root) = 1
code (Some (Members i First)) = i.number + i.number + 2
code (Some (Members i Second)) = i.number + i.number + 3

pub code_same : (a b : Option Chain) → code a ≡ code b → a ≡ b
unfolding code
code_same None None e = refl
code_same None (Some Root) e = absurd (omega (arith, e))
code_same None (Some (Members j First)) e = absurd (omega (arith, e))
code_same None (Some (Members j Second)) e = absurd (omega (arith, e))
code_same (Some Root) None e = absurd (omega (arith, e))
code_same (Some Root) (Some Root) e = refl
code_same (Some Root) (Some (Members j First)) e = absurd (omega (arith, e))
code_same (Some Root) (Some (Members j Second)) e = absurd (omega (arith, e))
code_same (Some (Members i First)) None e = absurd (omega (arith, e))
code_same (Some (Members i First)) (Some Root) e = absurd (omega (arith, e))
code_same (Some (Members i First)) (Some (Members j First)) e = ap (λ k. Some (Members k First)) (same_index i j (omega (arith, e)))
code_same (Some (Members i First)) (Some (Members j Second)) e = absurd (omega (arith, e))
code_same (Some (Members i Second)) None e = absurd (omega (arith, e))
code_same (Some (Members i Second)) (Some Root) e = absurd (omega (arith, e))
code_same (Some (Members i Second)) (Some (Members j First)) e = absurd (omega (arith, e))
code_same (Some (Members i Second)) (Some (Members j Second)) e = ap (λ k. Some (Members k Second)) (same_index i j (omega (arith, e)))

-- a number behind `found`
pub found_number : (k : ℕ) (x : Index) → Some x ≡ found k → (k ≡ x.number) × (1 ≤ k)
found_number zero x e = absurd (false≢true (ap is_some (sym e)))
found_number (suc k) x e = (sym (ap (λ i. i.number) (inside x (record { number = suc k }) e)), omega arith)
  where
    inside : (a b : Index) → Some a ≡ Some b → a ≡ b
    inside a b e = cc

pub found_none : (k : ℕ) → None ≡ found k → k ≡ 0
found_none zero e = refl
found_none (suc k) e = absurd (false≢true (ap is_some e))
