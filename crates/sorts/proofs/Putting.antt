-- A text put into one of several settings shows in its field alone. Assumes nothing.
use Rattle.std.proofs.Common.{◌≡◌, ℕ, zero, suc, true, cond, List, [], ◌∷◌, map, length, get_or, set, sym, refl, ap, ◌∙◌, arith}
use Rattle.std.proofs.Math.ListN.{get_or-map}
use Rattle.sorts.specs.declared.sort.Sort.{Sort}
use Rattle.sorts.specs.declared.sort.Sort.TheVariants.{Name, Number, Flag, Delay, Offset, QuickKey, Tag, Frequency, Modulation, Reserve}
use Rattle.sorts.specs.Values.{flag_of, flag_text}
use Rattle.sorts.specs.Sorts.{legal_in, standard_in}
use Rattle.sorts.specs.Plans.{Row, reserve_row}
use Rattle.sorts.specs.Settings.{written_in}
use Rattle.sorts.proofs.SortLaws.{flag_shown}

-- the text that shows the value which a text stands for
abbrev pub shown_in : Sort → List ℕ → List ℕ
shown_in Flag t = flag_text (flag_of t)
shown_in s t = standard_in s t

-- it is the standard form
shown_standard : (s : Sort) (t : List ℕ) → legal_in s t ≡ true → shown_in s t ≡ standard_in s t
shown_standard (Name start) t h = refl
shown_standard (Number low high) t h = refl
shown_standard Flag t h = flag_shown t h
shown_standard Delay t h = refl
shown_standard Offset t h = refl
shown_standard (QuickKey high) t h = refl
shown_standard Tag t h = refl
shown_standard Frequency t h = refl
shown_standard Modulation t h = refl
shown_standard Reserve t h = refl

-- the text that shows it in each row
abbrev pub shown_by : List Row → List ℕ → List (List ℕ)
shown_by Rs t = map (λ R. shown_in R.sort t) Rs

-- the texts xs with, in turn, one of them replaced by that of us
abbrev pub replaced : List (List ℕ) → List (List ℕ) → List (List (List ℕ))
replaced [] us = []
replaced (x ∷ xs) [] = []
replaced (x ∷ xs) (u ∷ us) = (u ∷ xs) ∷ map (λ ys. x ∷ ys) (replaced xs us)

replaced_at : (xs us : List (List ℕ)) (f : ℕ) → length us ≡ length xs → get_or (replaced xs us) f xs ≡ set xs f (get_or us f [])
replaced_at [] us f h = refl
replaced_at (x ∷ xs) [] f h = absurd (omega arith)
replaced_at (x ∷ xs) (u ∷ us) zero h = refl
replaced_at (x ∷ xs) (u ∷ us) (suc f) h = get_or-map (λ ys. x ∷ ys) (replaced xs us) f xs ∙ ap (λ ys. x ∷ ys) (replaced_at xs us f (omega arith))

shown_at : (Rs : List Row) (t : List ℕ) (f : ℕ) → get_or (shown_by Rs t) f [] ≡ shown_in (get_or Rs f reserve_row).sort t
shown_at Rs t f = get_or-map (λ R. shown_in R.sort t) Rs f reserve_row

-- settings of any sort that show, after a text for each field, the texts before with the value of that text in place
pub put_shown : {S : Type 0} (texts : S → List (List ℕ)) (Rs : List Row) (s : S) (puts : List S) (t : List ℕ) → map texts puts ≡ replaced (texts s) (shown_by Rs t) → length (shown_by Rs t) ≡ length (texts s) → (f : ℕ) → legal_in (get_or Rs f reserve_row).sort t ≡ true → texts (written_in Rs s puts f t) ≡ set (texts s) f (standard_in (get_or Rs f reserve_row).sort t)
put_shown texts Rs s puts t e n f h =
    ap (λ b. texts (cond b (get_or puts f s) s)) h ∙ sym (get_or-map texts puts f s) ∙ ap (λ xs. get_or xs f (texts s)) e ∙ replaced_at (texts s) (shown_by Rs t) f n ∙ ap (set (texts s) f) (shown_at Rs t f ∙ shown_standard (get_or Rs f reserve_row).sort t h)
