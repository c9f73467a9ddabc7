-- What the blocks hold, read off the table of records. Assumes nothing.
use Rattle.std.proofs.Common.{◌≡◌, ℕ, zero, suc, ◌<◌, ◌≤◌, List, [], ◌∷◌, map, length, get_or, take, drop, set, replicate, sym, refl, ap, ◌∙◌, arith}
use Rattle.std.proofs.lemmas.List.{map-set, get_or-map, get_or-take, length-map, length-take-le, length-replicate, take_at, drop_at, drop-set-lt}
use Rattle.pool.specs.Elements.{filled, stored}

pub take_set_comm : {X : Type 0} (n i : ℕ) (l : List X) (a : X) → take n (set l i a) ≡ set (take n l) i a
take_set_comm zero i l a = refl
take_set_comm (suc n) i [] a = refl
take_set_comm (suc n) zero (x ∷ l) a = refl
take_set_comm (suc n) (suc i) (x ∷ l) a = ap (λ z. x ∷ z) (take_set_comm n i l a)

map-replicate : {X Y : Type 0} (f : X → Y) (n : ℕ) (x : X) → map f (replicate n x) ≡ replicate n (f x)
map-replicate f zero x = refl
map-replicate f (suc n) x = ap (λ z. f x ∷ z) (map-replicate f n x)

module _ {X H : Type 0} (mean : X → H) where
  pub held_set : (n i : ℕ) (l l' : List X) (a : X) (h : H) → l' ≡ set l i a → mean a ≡ h → map mean (take n l') ≡ set (map mean (take n l)) i h
  held_set n i l l' a h e is = ap (λ z. map mean (take n z)) e ∙ ap (map mean) (take_set_comm n i l a) ∙ map-set mean (take n l) i a ∙ ap (set (map mean (take n l)) i) is

  pub held_stored : (n x : ℕ) (l l' : List X) (a : X) (h : H) → l' ≡ stored x a l → mean a ≡ h → map mean (take n l') ≡ stored x h (map mean (take n l))
  held_stored n zero l l' a h e is = ap (λ z. map mean (take n z)) e
  held_stored n (suc i) l l' a h e is = held_set n i l l' a h e is

  pub held_filled : (n : ℕ) (l l' : List X) (a : X) (h : H) → l' ≡ filled n a l → mean a ≡ h → map mean (take n l') ≡ replicate n h
  held_filled n l l' a h e is = ap (λ z. map mean (take n z)) e ∙ ap (map mean) (take_at (replicate n a) (drop n l) n (length-replicate n a)) ∙ map-replicate mean n a ∙ ap (replicate n) is

  pub held_at : (n i : ℕ) (l : List X) (r : X) (d : H) → i < n → n ≤ length l → ((d : X) → r ≡ get_or l i d) → mean r ≡ get_or (map mean (take n l)) i d
  held_at n i l r d h fits is = ap mean (is r ∙ sym (get_or-take n l i r h)) ∙ sym (get_or-map mean (take n l) i r d (omega (arith, length-take-le n l fits)))

  pub held_length : (n : ℕ) (l : List X) → n ≤ length l → length (map mean (take n l)) ≡ n
  held_length n l fits = length-map (take n l) mean ∙ length-take-le n l fits

-- what lies past the count stays
pub drop-stored : {X : Type 0} (n x : ℕ) (l l' : List X) (a : X) → x ≤ n → l' ≡ stored x a l → drop n l' ≡ drop n l
drop-stored n zero l l' a h e = ap (drop n) e
drop-stored n (suc i) l l' a h e = ap (drop n) e ∙ drop-set-lt n l i a (omega (arith, h))

pub drop-filled : {X : Type 0} (n : ℕ) (l l' : List X) (a : X) → l' ≡ filled n a l → drop n l' ≡ drop n l
drop-filled n l l' a e = ap (drop n) e ∙ drop_at (replicate n a) (drop n l) n (length-replicate n a)
