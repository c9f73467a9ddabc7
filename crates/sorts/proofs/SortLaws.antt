-- What holds of each sort of field: standard forms are legal and stay, starting texts too, and legal texts have their shape. Assumes nothing.
use Rattle.std.proofs.Common.{◌≡◌, ℕ, zero, suc, ◌<◌, ◌≤◌, Bool, true, false, cond, ◌&&◌, ◌||◌, eqb, leb, List, [], ◌∷◌, length, ℤ, Some, None, codes, decimal, refl, ap, ◌∙◌, ⊎_elim, arith}
use Rattle.std.specs.Char.{is_ascii_digit}
use Rattle.std.specs.Fmt.{signed_decimal, digits}
use Rattle.std.specs.Str.{all_ascii_digits, bytes_eq}
use Rattle.std.proofs.lemmas.Slice.Eq.{bytes_eq-Decides}
use Rattle.std.proofs.lemmas.Bool.{and_parts, and_from, or_cases, or_right, both_ways, cases_Bool, cond_both, le-leb, leb-true, eqb-true}
use Rattle.std.proofs.lemmas.Bool.Decides.{nat_tests}
use Rattle.text.specs.Number.{is_number, value, fixed}
use Rattle.text.specs.Signed.{is_signed, signed_of}
use Rattle.text.specs.Frequency.{in_band, legal_frequency}
use Rattle.text.proofs.Texts.{number_parts, value_below, value_fixed, decimal_number, decimal_value, eight_number}
use Rattle.text.proofs.Signs.{stands, signed_small}
use Rattle.make.specs.Shapes.{every, long, text_byte, text_shape}
use Rattle.sorts.specs.declared.value.Modulation.{Modulation as Wave}
use Rattle.sorts.specs.declared.value.Modulation.TheVariants.{Auto, Am, Fm, Nfm, Wfm, Fmb}
use Rattle.sorts.specs.declared.sort.StartingName.{StartingName}
use Rattle.sorts.specs.declared.sort.StartingName.TheVariants.{System, Site, Group, Channel, Talkgroup}
use Rattle.sorts.specs.declared.sort.Sort.{Sort}
use Rattle.sorts.specs.declared.sort.Sort.TheVariants.{Name, Number, Flag, Delay, Offset, QuickKey, Tag, Frequency, Modulation, Reserve}
use Rattle.sorts.specs.Values.{is_between, is_name, all_spaces, start_text, standard_name, flag_of, flag_text, is_number_or, number_unless, number_or, no_key, no_tag, is_modulation, modulation_of, modulation_text, is_delay_value, is_offset_value, frequency_text}
use Rattle.sorts.specs.Sorts.{legal_in, standard_in, start_in, sort_fine, is_reserve_sort}

-- numbers in a range
between_small : (low high : ℕ) (t : List ℕ) → is_between low high t ≡ true → value t < 100000
between_small low high t h = let b = value_below 5 t (and_parts (is_number 5 t) _ h).0 in omega arith

between_kept : (low high : ℕ) (t : List ℕ) → is_between low high t ≡ true → is_between low high (decimal (value t)) ≡ true
between_kept low high t h =
    let p = and_parts (is_number 5 t) (leb low (value t) && leb (value t) high) h in
    let small = between_small low high t h in
    and_from _ _ (decimal_number (value t) small) (ap (λ n. leb low n && leb n high) (decimal_value (value t) small) ∙ p.1)

-- a number is no word
not_word : (w t : List ℕ) → all_ascii_digits w ≡ false → is_number 5 t ≡ true → bytes_eq t w ≡ false
not_word w t h n =
    ⊎_elim (λ e. absurd (both_ways (all_ascii_digits t) (ap all_ascii_digits ((bytes_eq-Decides t w).0 e) ∙ h) (number_parts 5 t n).all)) (λ e. e) (cases_Bool (bytes_eq t w))

-- a flag is shown as its number
flag_number : (n : ℕ) → n ≤ 1 → flag_text (eqb n 1) ≡ decimal n
unfolding digits
flag_number zero h = refl
flag_number (suc zero) h = refl
flag_number (suc (suc n)) h = absurd (omega arith)

pub flag_shown : (t : List ℕ) → is_between 0 1 t ≡ true → flag_text (flag_of t) ≡ decimal (value t)
flag_shown t h =
    let p = and_parts (leb 0 (value t)) (leb (value t) 1) (and_parts (is_number 5 t) _ h).1 in
    flag_number (value t) (leb-true (value t) 1 p.1)

-- a word, or a number
same_word : (word : List ℕ) → bytes_eq word word ≡ true
same_word word = (bytes_eq-Decides word word).1 refl

word_settled : (word : List ℕ) (high : ℕ) (t : List ℕ) (b : Bool) → (b || is_between 0 high t) ≡ true → is_number_or word high (number_or word (cond b None (Some (value t)))) ≡ true
word_settled word high t true h = ap (λ b. b || is_between 0 high word) (same_word word)
word_settled word high t false h = or_right (bytes_eq (decimal (value t)) word) _ (between_kept 0 high t h)

word_stable : (word : List ℕ) (high : ℕ) (t : List ℕ) (b : Bool) → all_ascii_digits word ≡ false → (b || is_between 0 high t) ≡ true → number_or word (number_unless word (number_or word (cond b None (Some (value t))))) ≡ number_or word (cond b None (Some (value t)))
word_stable word high t true d h = ap (λ b. number_or word (cond b None (Some (value word)))) (same_word word)
word_stable word high t false d h =
    let small = between_small 0 high t h in
    ap (λ b. number_or word (cond b None (Some (value (decimal (value t)))))) (not_word word (decimal (value t)) d (decimal_number (value t) small)) ∙ ap decimal (decimal_value (value t) small)

-- modulations
wave_settled : (m : Wave) → is_modulation (modulation_text m) ≡ true
wave_settled Auto = refl
wave_settled Am = refl
wave_settled Fm = refl
wave_settled Nfm = refl
wave_settled Wfm = refl
wave_settled Fmb = refl

wave_stable : (m : Wave) → modulation_of (modulation_text m) ≡ m
wave_stable Auto = refl
wave_stable Am = refl
wave_stable Fm = refl
wave_stable Nfm = refl
wave_stable Wfm = refl
wave_stable Fmb = refl

-- frequencies
steps_shown : (n : ℕ) → in_band n ≡ true → frequency_text n ≡ fixed 8 n
steps_shown n h = ap (λ b. fixed 8 (cond b n 0)) h

frequency_settled : (t : List ℕ) → legal_frequency t ≡ true → legal_frequency (frequency_text (value t)) ≡ true
frequency_settled t h =
    let p = and_parts (is_number 8 t) (in_band (value t)) h in
    ap legal_frequency (steps_shown (value t) p.1) ∙ and_from _ _ (eight_number (value t)) (ap in_band (value_fixed 8 (value t) (value_below 8 t p.0)) ∙ p.1)

frequency_stable : (t : List ℕ) → legal_frequency t ≡ true → frequency_text (value (frequency_text (value t))) ≡ frequency_text (value t)
frequency_stable t h =
    let p = and_parts (is_number 8 t) (in_band (value t)) h in
    ap frequency_text (ap value (steps_shown (value t) p.1) ∙ value_fixed 8 (value t) (value_below 8 t p.0))

-- listed numbers with a sign
signed_settled : (listed : ℤ → Bool) (t : List ℕ) → (is_signed t && listed (signed_of t)) ≡ true → (is_signed (signed_decimal (signed_of t)) && listed (signed_of (signed_decimal (signed_of t)))) ≡ true
signed_settled listed t h =
    let p = and_parts (is_signed t) (listed (signed_of t)) h in
    let s = stands (signed_of t) (signed_small t p.0) in
    and_from _ _ s.legal (ap listed s.back ∙ p.1)

signed_stable : (listed : ℤ → Bool) (t : List ℕ) → (is_signed t && listed (signed_of t)) ≡ true → signed_decimal (signed_of (signed_decimal (signed_of t))) ≡ signed_decimal (signed_of t)
signed_stable listed t h = ap signed_decimal (stands (signed_of t) (signed_small t (and_parts (is_signed t) (listed (signed_of t)) h).0)).back

-- names
start_name : (start : StartingName) → (is_name (start_text start) ≡ true) × (all_spaces (start_text start) ≡ false)
start_name System = (refl, refl)
start_name Site = (refl, refl)
start_name Group = (refl, refl)
start_name Channel = (refl, refl)
start_name Talkgroup = (refl, refl)

name_stable : (start : StartingName) (t : List ℕ) (b : Bool) → all_spaces t ≡ b → standard_name start (cond b (start_text start) t) ≡ cond b (start_text start) t
name_stable start t true e = ap (λ b. cond b (start_text start) (start_text start)) (start_name start).1
name_stable start t false e = ap (λ b. cond b (start_text start) t) e

-- a standard form is legal
pub settled : (s : Sort) (t : List ℕ) → legal_in s t ≡ true → legal_in s (standard_in s t) ≡ true
settled (Name start) t h = cond_both (all_spaces t) (start_text start) t (λ x. is_name x ≡ true) (λ _. (start_name start).0) (λ _. h)
settled (Number low high) t h = between_kept low high t h
settled Flag t h = between_kept 0 1 t h
settled Delay t h = signed_settled is_delay_value t h
settled Offset t h = signed_settled is_offset_value t h
settled (QuickKey high) t h = word_settled no_key high t (bytes_eq t no_key) h
settled Tag t h = word_settled no_tag 999 t (bytes_eq t no_tag) h
settled Frequency t h = frequency_settled t h
settled Modulation t h = wave_settled (modulation_of t)
settled Reserve t h = h

-- a standard form is its own standard form
pub stable : (s : Sort) (t : List ℕ) → legal_in s t ≡ true → standard_in s (standard_in s t) ≡ standard_in s t
stable (Name start) t h = name_stable start t (all_spaces t) refl
stable (Number low high) t h = ap decimal (decimal_value (value t) (between_small low high t h))
stable Flag t h = ap decimal (decimal_value (value t) (between_small 0 1 t h))
stable Delay t h = signed_stable is_delay_value t h
stable Offset t h = signed_stable is_offset_value t h
stable (QuickKey high) t h = word_stable no_key high t (bytes_eq t no_key) refl h
stable Tag t h = word_stable no_tag 999 t (bytes_eq t no_tag) refl h
stable Frequency t h = frequency_stable t h
stable Modulation t h = ap modulation_text (wave_stable (modulation_of t))
stable Reserve t h = refl

-- the shape of legal texts
shape_from : (t : List ℕ) → 1 ≤ length t → length t ≤ 24 → every text_byte t ≡ true → text_shape t ≡ true
shape_from t some fits all = and_from _ _ (and_from _ _ (le-leb 1 (length t) some) (le-leb (length t) 24 fits)) all

digit_plain : (c : ℕ) → is_ascii_digit c ≡ true → text_byte c ≡ true
digit_plain c h = grind (arith, nat_tests)

digits_plain : (t : List ℕ) → all_ascii_digits t ≡ true → every text_byte t ≡ true
digits_plain [] h = refl
digits_plain (c ∷ cs) h = let p = and_parts (is_ascii_digit c) (all_ascii_digits cs) h in and_from _ _ (digit_plain c p.0) (digits_plain cs p.1)

number_shape : (most : ℕ) (t : List ℕ) → most ≤ 24 → is_number most t ≡ true → text_shape t ≡ true
number_shape most t m h = let p = number_parts most t h in shape_from t (omega arith) (omega arith) (digits_plain t p.all)

word_shape : (w t : List ℕ) → text_shape w ≡ true → bytes_eq t w ≡ true → text_shape t ≡ true
word_shape w t ok h = ap text_shape ((bytes_eq-Decides t w).0 h) ∙ ok

between_shape : (low high : ℕ) (t : List ℕ) → is_between low high t ≡ true → text_shape t ≡ true
between_shape low high t h = number_shape 5 t (omega arith) (and_parts (is_number 5 t) _ h).0

name_shape : (t : List ℕ) → is_name t ≡ true → text_shape t ≡ true
name_shape t h =
    let p = and_parts (long 1 16 t) (every text_byte t) h in
    let q = and_parts (leb 1 (length t)) (leb (length t) 16) p.0 in
    let low = leb-true 1 (length t) q.0 in
    let high = leb-true (length t) 16 q.1 in
    shape_from t low (omega arith) p.1

sign_shape : (c : ℕ) (cs : List ℕ) (a b : Bool) → eqb c 45 ≡ a → eqb c 43 ≡ b → is_number 5 (cond (a || b) cs (c ∷ cs)) ≡ true → text_shape (c ∷ cs) ≡ true
sign_shape c cs true b e g h = let p = number_parts 5 cs h in shape_from (c ∷ cs) (omega arith) (omega arith) (and_from _ _ (ap text_byte (eqb-true c 45 e)) (digits_plain cs p.all))
sign_shape c cs false true e g h = let p = number_parts 5 cs h in shape_from (c ∷ cs) (omega arith) (omega arith) (and_from _ _ (ap text_byte (eqb-true c 43 g)) (digits_plain cs p.all))
sign_shape c cs false false e g h = number_shape 5 (c ∷ cs) (omega arith) h

signed_shape : (t : List ℕ) → is_signed t ≡ true → text_shape t ≡ true
signed_shape [] h = absurd (both_ways (is_signed []) refl h)
signed_shape (c ∷ cs) h = sign_shape c cs (eqb c 45) (eqb c 43) refl refl h

wave_shape : (t : List ℕ) → is_modulation t ≡ true → text_shape t ≡ true
wave_shape t h =
    ⊎_elim (word_shape (codes "AUTO") t refl) (λ h. ⊎_elim (word_shape (codes "AM") t refl) (λ h. ⊎_elim (word_shape (codes "FM") t refl) (λ h. ⊎_elim (word_shape (codes "NFM") t refl) (λ h. ⊎_elim (word_shape (codes "WFM") t refl) (word_shape (codes "FMB") t refl) (or_cases _ _ h)) (or_cases _ _ h)) (or_cases _ _ h)) (or_cases _ _ h)) (or_cases _ _ h)

-- a legal text has 1 to 24 bytes from 32 to 126, and no comma
pub shaped : (s : Sort) (t : List ℕ) → legal_in s t ≡ true → text_shape t ≡ true
shaped (Name start) t h = name_shape t h
shaped (Number low high) t h = between_shape low high t h
shaped Flag t h = between_shape 0 1 t h
shaped Delay t h = signed_shape t (and_parts (is_signed t) _ h).0
shaped Offset t h = signed_shape t (and_parts (is_signed t) _ h).0
shaped (QuickKey high) t h = ⊎_elim (word_shape no_key t refl) (between_shape 0 high t) (or_cases (bytes_eq t no_key) (is_between 0 high t) h)
shaped Tag t h = ⊎_elim (word_shape no_tag t refl) (between_shape 0 999 t) (or_cases (bytes_eq t no_tag) (is_between 0 999 t) h)
shaped Frequency t h = number_shape 8 t (omega arith) (and_parts (is_number 8 t) _ h).0
shaped Modulation t h = wave_shape t h
shaped Reserve t h = absurd (both_ways false refl h)

-- a starting number
zero_starts : (high : ℕ) → 1 ≤ high → is_between 0 high (codes "0") ≡ true
zero_starts high h = le-leb 0 high (omega arith)

one_starts : (low high : ℕ) → low ≤ 1 → 1 ≤ high → is_between low high (codes "1") ≡ true
one_starts low high l h = and_from _ _ (le-leb low 1 l) (le-leb 1 high h)

number_starts : (low high : ℕ) (b : Bool) → eqb low 0 ≡ b → low ≤ 1 → 1 ≤ high → (is_between low high (cond b (codes "0") (codes "1")) ≡ true) × (decimal (value (cond b (codes "0") (codes "1"))) ≡ cond b (codes "0") (codes "1"))
unfolding digits
number_starts low high true e l h = (ap (λ n. is_between n high (codes "0")) (eqb-true low 0 e) ∙ zero_starts high h, refl)
number_starts low high false e l h = (one_starts low high l h, refl)

-- a starting text is legal and its own standard form
pub started : (s : Sort) → sort_fine s ≡ true → is_reserve_sort s ≡ false → (legal_in s (start_in s) ≡ true) × (standard_in s (start_in s) ≡ start_in s)
unfolding digits
started (Name start) f h = ((start_name start).0, ap (λ b. cond b (start_text start) (start_text start)) (start_name start).1)
started (Number low high) f h =
    let p = and_parts (leb low 1) (leb 1 high) f in
    number_starts low high (eqb low 0) refl (leb-true low 1 p.0) (leb-true 1 high p.1)
started Flag f h = (refl, refl)
started Delay f h = (refl, refl)
started Offset f h = (refl, refl)
started (QuickKey high) f h = (refl, refl)
started Tag f h = (refl, refl)
started Frequency f h = (refl, refl)
started Modulation f h = (refl, refl)
started Reserve f h = absurd (both_ways true h refl)

-- a reserve field has no legal text and starts empty
pub reserved : (s : Sort) → is_reserve_sort s ≡ true → ((t : List ℕ) → legal_in s t ≡ false) × (start_in s ≡ [])
reserved (Name start) h = absurd (both_ways false refl h)
reserved (Number low high) h = absurd (both_ways false refl h)
reserved Flag h = absurd (both_ways false refl h)
reserved Delay h = absurd (both_ways false refl h)
reserved Offset h = absurd (both_ways false refl h)
reserved (QuickKey high) h = absurd (both_ways false refl h)
reserved Tag h = absurd (both_ways false refl h)
reserved Frequency h = absurd (both_ways false refl h)
reserved Modulation h = absurd (both_ways false refl h)
reserved Reserve h = (λ t. refl, refl)
