-- The writes of one move put together. Assumes nothing.
use Rattle.std.proofs.Common.{◌≡◌, ℕ, ◌+◌, ◌-◌, ◌<◌, ◌≤◌, List, [], length, get_or, drop, set, is_some, Some, sym, refl, ap, ◌∙◌, subst, arith, length-set}
use Rattle.std.proofs.lemmas.Bool.{false≢true}
use Rattle.chain.specs.declared.link.Chain.{Chain}
use Rattle.chain.specs.declared.link.Ends.{Ends}
use Rattle.chain.specs.declared.link.Member.{Member}
use Rattle.chain.specs.declared.link.Link.{Link}
use Rattle.chain.specs.declared.link.Link.TheVariants.{Free, Used}
use Rattle.chain.specs.declared.tables.Tables.{Tables}
use Rattle.chain.specs.Rows.{occ}
use Rattle.chain.specs.Entry.{first_of, second_of, entry, nowhere, link_at, ends_in, ends_at, number, Within, no_ends, with_next, with_previous, changed, hung, root_with, ends_with, ends_without}
use Rattle.chain.specs.Blocks.{created, taken, pushed, Living, occ_all, total}
use Rattle.chain.specs.Tables.{Loose, Sound, blocks_in, chains_in, chain_in, free_in}
use Rattle.chain.proofs.Numbers.{within_more, within_owned}
use Rattle.chain.proofs.Seen.{loose}
use Rattle.chain.proofs.Added.{Appended}
use Rattle.chain.proofs.Removed.{Unlinked, Freeing}
use Rattle.chain.proofs.Written.{freeing, appended, behind_long, behind_later, unlinked, unlinked_long, unlinked_later, mended_ends}
use Rattle.chain.proofs.Moves.{f_of, top_within, may_within, may_busy, may_apart, tail_within, tail_used, tail_apart, append_sound, append_blocks, member_within, member_some, member_chain_within, member_busy, prev_used, next_used, prev_within, next_within, unlink_loose, unlink_blocks, push_loose, push_blocks}

-- the links after block x was put behind a chain with ends e
abbrev pub put_behind : List Link → Chain → ℕ → Ends → List Link
put_behind t d x e = hung (changed (set t (x - 1) (Used (record { previous = e.tail; next = 0; chain = d; first = no_ends; second = no_ends }))) e.tail (with_next x)) d (ends_with e x)

module _ (p p' : Tables) (d : Chain) (s : Sound p) (u : Living (blocks_in p) d) (some : 0 < p.free) (e : Ends) (e_is : e ≡ ends_in p.root (link_at p.links.now) d)
    (links_is : p'.links.now ≡ put_behind p.links.now d p.free e) (root_is : p'.root ≡ root_with p.root d (ends_with e p.free))
    (free_is : p'.free ≡ (link_at p.links.now p.free).next) (count_is : p'.count ≡ p.count) (spare_is : p'.spare ≡ p.spare - 1) where
  l : Loose p
  l = loose p s

  links_are : p'.links.now ≡ put_behind p.links.now d p.free (ends_in p.root (link_at p.links.now) d)
  links_are = links_is ∙ ap (put_behind p.links.now d p.free) e_is

  root_are : p'.root ≡ root_with p.root d (ends_with (ends_in p.root (link_at p.links.now) d) p.free)
  root_are = root_is ∙ ap (λ z. root_with p.root d (ends_with z p.free)) e_is

  xt : p.free ≤ length p.links.now
  xt = let h = top_within p l in omega arith

  w : Within (length p.links.now) d
  w = within_more p.count _ d (top_within p l).1 (may_within p d l u)

  lt : (ends_in p.root (link_at p.links.now) d).tail ≤ length p.links.now
  lt = let h = top_within p l in let k = tail_within p d l u in omega arith

  long : length p'.links.now ≡ length p.links.now
  long = ap length links_are ∙ behind_long p.links.now p.root d p.free some xt w (may_apart p d l u some).0 (may_apart p d l u some).1 (tail_apart p d l u some) lt (tail_used p d l u) (may_busy p d l u)

  put : Appended (link_at p.links.now) (link_at p'.links.now) (ends_at p.root (link_at p.links.now)) (ends_at p'.root (link_at p'.links.now)) p.free (number d)
  put = subst (λ t. Appended (link_at p.links.now) (link_at t) (ends_at p.root (link_at p.links.now)) (ends_at p'.root (link_at t)) p.free (number d)) (sym links_are)
      (subst (λ r. Appended (link_at p.links.now) (link_at (put_behind p.links.now d p.free (ends_in p.root (link_at p.links.now) d))) (ends_at p.root (link_at p.links.now)) (ends_at r (link_at (put_behind p.links.now d p.free (ends_in p.root (link_at p.links.now) d)))) p.free (number d)) (sym root_are)
      (appended p.links.now p.root d p.free some xt w (may_apart p d l u some).0 (may_apart p d l u some).1 (tail_apart p d l u some) lt (tail_used p d l u) (may_busy p d l u)))

  pub put_sound : Sound p'
  put_sound = append_sound p p' d s u some put free_is count_is spare_is long

  pub put_blocks : blocks_in p' ≡ created (blocks_in p) (number d)
  put_blocks = append_blocks p p' d s u some put free_is count_is spare_is long

  pub put_later : drop p.count p'.links.now ≡ drop p.count p.links.now
  put_later = ap (drop p.count) links_are ∙ behind_later p.links.now p.root d p.free some xt w (may_apart p d l u some).0 (may_apart p d l u some).1 (tail_apart p d l u some) lt (tail_used p d l u) (may_busy p d l u) p.count (top_within p l).0 (tail_within p d l u) (may_within p d l u)

-- the links after the block between two others was taken out of a chain, which gets ends e
abbrev pub taken_out : List Link → Chain → ℕ → ℕ → Ends → List Link
taken_out t d previous next e = hung (changed (changed t previous (with_next next)) next (with_previous previous)) d e

module _ (p p' : Tables) (x : ℕ) (s : Loose p) (member : 1 ≤ occ_all x (chains_in p)) (m : Member) (is : get_or p.links.now (x - 1) nowhere ≡ Used m) (e e' : Ends)
    (e_is : e ≡ ends_in p.root (link_at (changed (changed p.links.now m.previous (with_next m.next)) m.next (with_previous m.previous))) m.chain) (e'_is : e' ≡ ends_without e m.previous m.next)
    (links_is : p'.links.now ≡ taken_out p.links.now m.chain m.previous m.next e') (root_is : p'.root ≡ root_with p.root m.chain e')
    (free_is : p'.free ≡ p.free) (count_is : p'.count ≡ p.count) (spare_is : p'.spare ≡ p.spare) where
  home : (f_of p x).home ≡ Some m.chain
  home = ap (λ l. (entry l).home) is

  prev_is : m.previous ≡ (link_at p.links.now x).prev
  prev_is = sym (ap (λ l. (entry l).prev) is)

  next_is : m.next ≡ (link_at p.links.now x).next
  next_is = sym (ap (λ l. (entry l).next) is)

  w' : Within (length p.links.now) m.chain
  w' = within_more p.count _ m.chain (member_within p x s member).1 (member_chain_within p x s member m.chain home)

  pt : (link_at p.links.now x).prev ≤ length p.links.now
  pt = let h = member_within p x s member in let k = prev_within p x s member m.chain home in omega arith

  qt : (link_at p.links.now x).next ≤ length p.links.now
  qt = let h = member_within p x s member in let k = next_within p x s member m.chain home in omega arith

  links_are' : p'.links.now ≡ taken_out p.links.now m.chain (link_at p.links.now x).prev (link_at p.links.now x).next e'
  links_are' = links_is ∙ ap (λ z. taken_out p.links.now m.chain z m.next e') prev_is ∙ ap (λ z. taken_out p.links.now m.chain (link_at p.links.now x).prev z e') next_is

  ends_are : e' ≡ ends_without (ends_in p.root (link_at p.links.now) m.chain) (link_at p.links.now x).prev (link_at p.links.now x).next
  ends_are = e'_is ∙ ap (λ z. ends_without z m.previous m.next) (e_is
      ∙ ap (λ z. ends_in p.root (link_at (changed (changed p.links.now z (with_next m.next)) m.next (with_previous z))) m.chain) prev_is
      ∙ ap (λ z. ends_in p.root (link_at (changed (changed p.links.now (link_at p.links.now x).prev (with_next z)) z (with_previous (link_at p.links.now x).prev))) m.chain) next_is
      ∙ mended_ends p.links.now p.root m.chain x w' pt qt (prev_used p x s member m.chain home) (next_used p x s member m.chain home) (member_busy p x s member m.chain home) m.chain (within_owned _ m.chain w'))
      ∙ ap (λ z. ends_without (ends_in p.root (link_at p.links.now) m.chain) z m.next) prev_is
      ∙ ap (λ z. ends_without (ends_in p.root (link_at p.links.now) m.chain) (link_at p.links.now x).prev z) next_is

  long' : length p'.links.now ≡ length p.links.now
  long' = ap length links_are' ∙ unlinked_long p.links.now p.root m.chain x w' pt qt (prev_used p x s member m.chain home) (next_used p x s member m.chain home) (member_busy p x s member m.chain home) e' ends_are

  cut : Unlinked (link_at p.links.now) (link_at p'.links.now) (ends_at p.root (link_at p.links.now)) (ends_at p'.root (link_at p'.links.now)) x (number m.chain)
  cut = subst (λ t. Unlinked (link_at p.links.now) (link_at t) (ends_at p.root (link_at p.links.now)) (ends_at p'.root (link_at t)) x (number m.chain)) (sym links_are')
      (subst (λ r. Unlinked (link_at p.links.now) (link_at (taken_out p.links.now m.chain (link_at p.links.now x).prev (link_at p.links.now x).next e')) (ends_at p.root (link_at p.links.now)) (ends_at r (link_at (taken_out p.links.now m.chain (link_at p.links.now x).prev (link_at p.links.now x).next e'))) x (number m.chain)) (sym root_is)
      (unlinked p.links.now p.root m.chain x w' pt qt (prev_used p x s member m.chain home) (next_used p x s member m.chain home) (member_busy p x s member m.chain home) e' ends_are))

  pub cut_loose : Loose p'
  cut_loose = unlink_loose p x s member m.chain home p' cut free_is count_is spare_is long'

  pub cut_blocks : blocks_in p' ≡ taken (blocks_in p) x
  cut_blocks = unlink_blocks p x s member m.chain home p' cut free_is count_is spare_is long'

  pub cut_later : drop p.count p'.links.now ≡ drop p.count p.links.now
  cut_later = ap (drop p.count) links_are' ∙ unlinked_later p.links.now p.root m.chain x w' pt qt (prev_used p x s member m.chain home) (next_used p x s member m.chain home) (member_busy p x s member m.chain home) e' ends_are p.count (prev_within p x s member m.chain home) (next_within p x s member m.chain home) (member_chain_within p x s member m.chain home)

-- what the code's bounds want of a block in a chain
module _ (p : Tables) (x : ℕ) (s : Loose p) (member : 1 ≤ occ_all x (chains_in p)) (m : Member) (is : get_or p.links.now (x - 1) nowhere ≡ Used m) where
  pub cut_bounds : (m.previous ≤ p.count) × (m.next ≤ p.count) × (p.count ≤ length p.links.now)
  cut_bounds = let home = ap (λ l. (entry l).home) is in
      (omega (arith, prev_within p x s member m.chain home, ap (λ l. (entry l).prev) is), omega (arith, next_within p x s member m.chain home, ap (λ l. (entry l).next) is), (member_within p x s member).1)

  pub cut_within : Within p.count m.chain
  cut_within = member_chain_within p x s member m.chain (ap (λ l. (entry l).home) is)

pub not_free : (p : Tables) (x : ℕ) → Loose p → 1 ≤ occ_all x (chains_in p) → (l : Link) → get_or p.links.now (x - 1) nowhere ≡ l → ((m : Member) → l ≡ Used m → ⊥) → ⊥
not_free p x s member (Free n) is none = false≢true (sym (ap (λ l. is_some (entry l).home) is) ∙ member_some p x s member)
not_free p x s member (Used m) is none = none m refl

-- a block was put in front of the free stack
module _ (p p' : Tables) (x : ℕ) (s : Loose p) (x1 : 1 ≤ x) (xn : x ≤ p.count) (out : occ x (free_in p) + occ_all x (chains_in p) ≡ 0) (room : length (free_in p) + total (chains_in p) + 1 ≤ p.count) (first : chain_in p (first_of x) ≡ []) (second : chain_in p (second_of x) ≡ [])
    (links_is : p'.links.now ≡ set p.links.now (x - 1) (Free p.free)) (root_is : p'.root ≡ p.root) (free_is : p'.free ≡ x) (count_is : p'.count ≡ p.count) (spare_is : p'.spare ≡ p.spare + 1) where
  freed : Freeing (link_at p.links.now) (link_at p'.links.now) (ends_at p.root (link_at p.links.now)) (ends_at p'.root (link_at p'.links.now)) x p.free
  freed = subst (λ t. Freeing (link_at p.links.now) (link_at t) (ends_at p.root (link_at p.links.now)) (ends_at p'.root (link_at t)) x p.free) (sym links_is)
      (subst (λ r. Freeing (link_at p.links.now) (link_at (set p.links.now (x - 1) (Free p.free))) (ends_at p.root (link_at p.links.now)) (ends_at r (link_at (set p.links.now (x - 1) (Free p.free)))) x p.free) (sym root_is)
      (freeing p.links.now p.root x p.free x1 (let h = top_within p s in omega (arith, h, xn))))

  freed_long : length p'.links.now ≡ length p.links.now
  freed_long = ap length links_is ∙ length-set p.links.now (x - 1) _

  pub stacked_loose : Loose p'
  stacked_loose = push_loose p p' x s freed x1 xn out room first second free_is count_is spare_is freed_long

  pub stacked_blocks : blocks_in p' ≡ pushed (blocks_in p) x
  stacked_blocks = push_blocks p p' x s freed x1 xn out room first second free_is count_is spare_is freed_long
