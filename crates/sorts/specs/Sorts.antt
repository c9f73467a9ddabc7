-- Which texts a field of each sort takes, their standard forms, and the text that it starts with. Assumes nothing.
use Rattle.std.specs.Prelude.{ℕ, Bool, true, false, ◌&&◌, List, [], codes, decimal, ◌==◌, nat_le, if◌then◌else◌}
use Rattle.std.specs.Fmt.{signed_decimal}
use Rattle.text.specs.Number.{value}
use Rattle.text.specs.Signed.{signed_of}
use Rattle.text.specs.Frequency.{legal_frequency}
use Rattle.sorts.specs.declared.sort.Sort.{Sort}
use Rattle.sorts.specs.declared.sort.Sort.TheVariants.{Name, Number, Flag, Delay, Offset, QuickKey, Tag, Frequency, Modulation, Reserve}
use Rattle.sorts.specs.Values.{is_between, is_name, start_text, standard_name, is_quick_key, quick_key_of, quick_key_text, is_tag, tag_of, tag_text, is_modulation, modulation_of, modulation_text, is_delay, is_offset, frequency_text}

-- a field without a range is 0 or 1
abbrev pub flag : Sort
flag = Flag

-- the texts that a field of each sort takes
abbrev pub legal_in : Sort → List ℕ → Bool
legal_in (Name start) t = is_name t
legal_in (Number low high) t = is_between low high t
legal_in Flag t = is_between 0 1 t
legal_in Delay t = is_delay t
legal_in Offset t = is_offset t
legal_in (QuickKey high) t = is_quick_key high t
legal_in Tag t = is_tag t
legal_in Frequency t = legal_frequency t
legal_in Modulation t = is_modulation t
legal_in Reserve t = false

-- the standard form: the text that shows the value which the text stands for
abbrev pub standard_in : Sort → List ℕ → List ℕ
standard_in (Name start) t = standard_name start t
standard_in (Number low high) t = decimal (value t)
standard_in Flag t = decimal (value t)
standard_in Delay t = signed_decimal (signed_of t)
standard_in Offset t = signed_decimal (signed_of t)
standard_in (QuickKey high) t = quick_key_text (quick_key_of t)
standard_in Tag t = tag_text (tag_of t)
standard_in Frequency t = frequency_text (value t)
standard_in Modulation t = modulation_text (modulation_of t)
standard_in Reserve t = []

-- the starting text: a number starts at 0, or at 1 where 0 is not legal
abbrev pub start_in : Sort → List ℕ
start_in (Name start) = start_text start
start_in (Number low high) = if low == 0 then codes "0" else codes "1"
start_in Flag = codes "0"
start_in Delay = codes "0"
start_in Offset = codes "0"
start_in (QuickKey high) = codes "."
start_in Tag = codes "NONE"
start_in Frequency = codes "00000000"
start_in Modulation = codes "AUTO"
start_in Reserve = []

-- a range that has 0 or 1 in it, so that a number can start there
abbrev pub sort_fine : Sort → Bool
sort_fine (Name start) = true
sort_fine (Number low high) = nat_le low 1 && nat_le 1 high
sort_fine Flag = true
sort_fine Delay = true
sort_fine Offset = true
sort_fine (QuickKey high) = true
sort_fine Tag = true
sort_fine Frequency = true
sort_fine Modulation = true
sort_fine Reserve = true

-- the sort that takes no text
abbrev pub is_reserve_sort : Sort → Bool
is_reserve_sort (Name start) = false
is_reserve_sort (Number low high) = false
is_reserve_sort Flag = false
is_reserve_sort Delay = false
is_reserve_sort Offset = false
is_reserve_sort (QuickKey high) = false
is_reserve_sort Tag = false
is_reserve_sort Frequency = false
is_reserve_sort Modulation = false
is_reserve_sort Reserve = true
