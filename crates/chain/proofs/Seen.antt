-- The blocks that are read off the tables are those that they stand for. Assumes nothing.
use Rattle.std.proofs.Common.{◌≡◌, ℕ, zero, suc, ◌+◌, ◌<◌, ◌≤◌, cond, List, [], ◌∷◌, length, get_or, sym, refl, ap, ◌∙◌, subst, arith}
use mathlib.Core.Logic.{∥∥₁_elim, ∥∥₁_map}
use Rattle.std.proofs.lemmas.List.{ext_get_or, length-map, get_or-map}
use Rattle.std.proofs.lemmas.Bool.{ne_eqb}
use Rattle.chain.specs.declared.link.Ends.{Ends}
use Rattle.chain.specs.declared.tables.Tables.{Tables}
use Rattle.chain.specs.Rows.{head_or, Row}
use Rattle.chain.specs.Entry.{Entry, link_at, ends_at}
use Rattle.chain.specs.Blocks.{Blocks, chain, run}
use Rattle.chain.specs.Kept.{Kept, Stack}
use Rattle.chain.specs.Tables.{follow, blocks, Linked, Holds, Loose, Sound, blocks_in}
use Rattle.chain.specs.declared.link.Link.{Link}
use Rattle.chain.proofs.Counts.{len_one}

-- a row or a stack, forward only
abbrev Way : (ℕ → Entry) → List ℕ → Type 0
Way f [] = Unit {0}
Way f (x ∷ xs) = ((1 ≤ x) × ((f x).next ≡ head_or 0 xs)) × Way f xs

stack_way : (f : ℕ → Entry) (n : ℕ) (xs : List ℕ) → Stack f n xs → Way f xs
stack_way f n [] s = tt
stack_way f n (x ∷ xs) s = ((s.0.from, s.0.next), stack_way f n xs s.1)

follow_stack : (t : List Link) (m : ℕ) (xs : List ℕ) → Way (link_at t) xs → length xs ≤ m → follow t m (head_or 0 xs) ≡ xs
unfolding follow
follow_stack t zero [] s h = refl
follow_stack t zero (x ∷ xs) s h = absurd (omega arith)
follow_stack t (suc m) [] s h = refl
follow_stack t (suc m) (x ∷ xs) s h =
    ap (λ b. cond b [] (x ∷ follow t m (link_at t x).next)) (ne_eqb x 0 (λ e. omega (arith, s.0.0)))
    ∙ ap (λ ys. x ∷ ys) (ap (follow t m) s.0.1 ∙ follow_stack t m xs s.1 (omega arith))

row_stack : (f : ℕ → Entry) (n b : ℕ) (xs : List ℕ) → Row f n b xs 0 → Way f xs
row_stack f n b [] r = tt
row_stack f n b (x ∷ xs) r = ((r.0.from, r.0.next), row_stack f n x xs r.1)

pub length_run : (a m : ℕ) → length (run a m) ≡ m
length_run a zero = refl
length_run a (suc m) = ap suc (length_run (suc a) m)

get_or_run : (a m k : ℕ) → k < m → get_or (run a m) k 0 ≡ a + k
get_or_run a zero k h = absurd (omega arith)
get_or_run a (suc m) zero h = omega arith
get_or_run a (suc m) (suc k) h = get_or_run (suc a) m k (omega arith) ∙ omega arith

module _ (t : List Link) (root : Ends) (top n : ℕ) (L : Blocks) (k : Kept (link_at t) (ends_at root (link_at t)) top n L) where
  free_seen : (blocks t root top n).free ≡ L.free
  free_seen = ap (follow t n) k.front ∙ follow_stack t n L.free (stack_way (link_at t) n L.free k.stack) (omega (arith, k.fits))

  one : (c : ℕ) → c ≤ n + n → follow t n (ends_at root (link_at t) c).head ≡ chain L c
  one c h = let ch = k.chained c h in
      ap (follow t n) ch.head ∙ follow_stack t n (chain L c) (row_stack (link_at t) n 0 _ ch.row) (omega (arith, len_one c L.chains, k.fits))

  long : length (blocks t root top n).chains ≡ n + n + 1
  long = length-map (run 0 (n + n + 1)) (λ (c : ℕ). follow t n (ends_at root (link_at t) c).head) ∙ length_run 0 (n + n + 1)

  at : (c : ℕ) → c ≤ n + n → get_or (blocks t root top n).chains c [] ≡ chain L c
  at c h =
      get_or-map (λ (c : ℕ). follow t n (ends_at root (link_at t) c).head) (run 0 (n + n + 1)) c 0 [] (omega (arith, length_run 0 (n + n + 1)))
      ∙ ap (λ i. follow t n (ends_at root (link_at t) i).head) is
      ∙ one c h
    where
      is : get_or (run 0 (n + n + 1)) c 0 ≡ c
      is = get_or_run 0 (n + n + 1) c (omega arith) ∙ omega arith

  chains_seen : (blocks t root top n).chains ≡ L.chains
  chains_seen = ext_get_or [] _ _ (long ∙ sym k.size) (λ c h. at c (omega (arith, h, long)))

  pub blocks_seen : blocks t root top n ≡ L
  blocks_seen = λ i. record { chains = chains_seen i; free = free_seen i }

pub seen : (p : Tables) (L : Blocks) → Linked p L → blocks_in p ≡ L
unfolding blocks_in
seen p L h = blocks_seen p.links.now p.root p.free p.count L h.kept

-- the tables agree with what is read off them
pub linked_seen : (p : Tables) (L : Blocks) → Linked p L → Linked p (blocks_in p)
linked_seen p L h = subst (λ z. Linked p z) (sym (seen p L h)) h

pub holds_seen : (p : Tables) (L : Blocks) → Holds p L → Holds p (blocks_in p)
holds_seen p L h = subst (λ z. Holds p z) (sym (seen p L h.linked)) h

pub loose : (p : Tables) → Sound p → Loose p
loose p s = ∥∥₁_map s (λ k. (k.0, k.1.linked))

-- a fact that has one proof at most follows from what is read off
pub by_view : (p : Tables) (P : Type 0) → ((a b : P) → a ≡ b) → Loose p → (Linked p (blocks_in p) → P) → P
by_view p P prop s then = ∥∥₁_elim s prop (λ k. then (linked_seen p k.0 k.1))

pub by_sound : (p : Tables) (P : Type 0) → ((a b : P) → a ≡ b) → Sound p → (Holds p (blocks_in p) → P) → P
by_sound p P prop s then = ∥∥₁_elim s prop (λ k. then (holds_seen p k.0 k.1))
