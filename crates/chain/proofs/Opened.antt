-- The tables as they are opened. Assumes nothing.
use Rattle.std.proofs.Common.{◌≡◌, ℕ, zero, suc, ◌+◌, ◌-◌, ◌^◌, ◌<◌, ◌≤◌, min, cond, List, [], length, get_or, replicate, sym, refl, ap, ◌∙◌, subst, arith}
use lib.ListN.{length-replicate}
use Rattle.std.proofs.lemmas.Bool.{lt-ltb, le-ltb}
use Rattle.std.proofs.lemmas.Bool.Decides.{nat_tests}
use Rattle.chain.specs.declared.link.Link.{Link}
use Rattle.chain.specs.Entry.{entry, link_at, ends_in, ends_at, nowhere, no_ends, chain_at, Within}
use Rattle.chain.specs.declared.link.Branch.TheVariants.{First, Second}
use Rattle.chain.specs.declared.link.Chain.{Chain}
use Rattle.chain.specs.declared.link.Chain.TheVariants.{Root, Members}
use Rattle.chain.specs.Rows.{head_or, occ}
use Rattle.chain.specs.Blocks.{occ_all, total, run, threaded, opened}
use Rattle.chain.specs.Kept.{Kept, Chained, Stack}
use Rattle.chain.specs.Tables.{Holds, Sound, blocks_in}
use Rattle.chain.specs.declared.tables.Tables.{Tables}
use Rattle.chain.proofs.Numbers.{at_owned, number_at, number_within}
use Rattle.chain.proofs.Seen.{seen, length_run}
use Rattle.chain.proofs.Counts.{stack_within}

occ_none : (i a m : ℕ) → i < a → occ i (run a m) ≡ 0
occ_none i a zero h = refl
occ_none i a (suc m) h = grind (arith, nat_tests, occ_none i (suc a) m (omega arith))

occ_run : (i a m : ℕ) → occ i (run a m) ≤ 1
occ_run i a zero = omega arith
occ_run i a (suc m) = grind (arith, nat_tests, occ_run i (suc a) m, occ_none i (suc a) m)

occ_in : (i a m : ℕ) → a ≤ i → i < a + m → 1 ≤ occ i (run a m)
occ_in i a zero h l = omega arith
occ_in i a (suc m) h l = grind (arith, nat_tests, occ_in i (suc a) m)

occ_empty : (i m : ℕ) → occ_all i (replicate m []) ≡ 0
occ_empty i zero = refl
occ_empty i (suc m) = omega (arith, occ_empty i m)

total_empty : (m : ℕ) → total (replicate m []) ≡ 0
total_empty zero = refl
total_empty (suc m) = omega (arith, total_empty m)

module _ (t : List Link) (n : ℕ) (front : (k : ℕ) → k < n → get_or t k nowhere ≡ threaded n k) where
  stack_run : (a m : ℕ) → 1 ≤ a → a + m ≡ n + 1 → Stack (link_at t) n (run a m)
  stack_run a zero a1 e = tt
  stack_run a (suc zero) a1 e =
      (record { from = a1; upto = omega arith; next = ap (λ l. (entry l).next) (front (a - 1) (omega arith)) ∙ ap (λ b. cond b (a - 1 + 2) 0) (le-ltb (a - 1 + 1) n (omega arith)); prev = ap (λ l. (entry l).prev) (front (a - 1) (omega arith)) }, tt)
  stack_run a (suc (suc m)) a1 e =
      (record { from = a1; upto = omega arith; next = ap (λ l. (entry l).next) (front (a - 1) (omega arith)) ∙ ap (λ b. cond b (a - 1 + 2) 0) (lt-ltb (a - 1 + 1) n (omega arith)) ∙ omega arith; prev = ap (λ l. (entry l).prev) (front (a - 1) (omega arith)) }, stack_run (suc a) (suc m) (omega arith) (omega arith))

front_run : (n : ℕ) → min n 1 ≡ head_or 0 (run 1 n)
front_run zero = refl
front_run (suc n) = omega arith

chain_empty : (m c : ℕ) → get_or {A = List ℕ} (replicate m []) c [] ≡ []
chain_empty zero c = refl
chain_empty (suc m) zero = refl
chain_empty (suc m) (suc c) = chain_empty m c

pub opened_keeps : (t : List Link) (n top : ℕ) → ((k : ℕ) → k < n → get_or t k nowhere ≡ threaded n k) → top ≡ min n 1 → Kept (link_at t) (ends_at no_ends (link_at t)) top n (opened n)
opened_keeps t n top front is = record {
  size = length-replicate (n + n + 1) [];
  chained = λ c h. subst (λ xs. Chained (link_at t) n (ends_at no_ends (link_at t) c) xs) (sym (chain_empty (n + n + 1) c)) (record { row = tt; head = ap (λ e. e.head) (none c h); tail = ap (λ e. e.tail) (none c h) });
  homed = λ c i h. absurd (omega (arith, h, ap (occ i) (chain_empty (n + n + 1) c)));
  idle = λ i h. ap (λ l. (entry l).home) (front (i - 1) (in_run i h));
  busy = λ i i1 il h. absurd (omega (arith, h, occ_in i 1 n i1 (omega (arith, il))));
  bare = λ i h. (chain_empty (n + n + 1) _, chain_empty (n + n + 1) _);
  stack = stack_run t n front 1 n (omega arith) (omega arith);
  front = is ∙ front_run n;
  once = λ i. omega (arith, occ_run i 1 n, occ_empty i (n + n + 1));
  fits = omega (arith, length_run 1 n, total_empty (n + n + 1));
}
  where
    none_in : (c : Chain) → Within n c → ends_in no_ends (link_at t) c ≡ no_ends
    none_in Root w = refl
    none_in (Members i First) w = ap (λ l. (entry l).first) (front (i.number - 1) (omega (arith, w)))
    none_in (Members i Second) w = ap (λ l. (entry l).second) (front (i.number - 1) (omega (arith, w)))

    none : (c : ℕ) → c ≤ n + n → ends_at no_ends (link_at t) c ≡ no_ends
    none c h = none_in (chain_at c) (number_within n (chain_at c) (at_owned c) (omega (arith, h, number_at c)))

    in_run : (i : ℕ) → 1 ≤ occ i (run 1 n) → i - 1 < n
    in_run i h = let w = stack_within (link_at t) n (run 1 n) (stack_run t n front 1 n (omega arith) (omega arith)) i h in omega arith

-- tables that were threaded stand for free blocks only
module _ (p : Tables) (front : (k : ℕ) → k < p.count → get_or p.links.now k nowhere ≡ threaded p.count k) (top : p.free ≡ min p.count 1) (root : p.root ≡ no_ends) (spare : p.spare ≡ p.count) (room : p.count ≤ length p.links.now) (small : p.count < 2 ^ 32) where
  whole : Holds p (opened p.count)
  whole = record {
    linked = record { small = small; room = room; spare = spare ∙ sym (length_run 1 p.count); kept = subst (λ r. Kept (link_at p.links.now) (ends_at r (link_at p.links.now)) p.free p.count (opened p.count)) (sym root) (opened_keeps p.links.now p.count p.free front top) };
    all = λ i i1 il. omega (arith, occ_in i 1 p.count i1 (omega (arith, il)));
    full = omega (arith, length_run 1 p.count, total_empty (p.count + p.count + 1));
  }

  pub opened_sound : Sound p
  opened_sound = ∣ (opened p.count, whole) ∣₁

  pub opened_blocks : blocks_in p ≡ opened p.count
  opened_blocks = seen p (opened p.count) whole.linked
