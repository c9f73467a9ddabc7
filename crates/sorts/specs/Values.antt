-- The values that texts stand for, and the texts that show them. Assumes nothing.
use Rattle.std.specs.Prelude.{ℕ, ◌+◌, Bool, true, false, ◌&&◌, ◌||◌, List, ℤ, pos, negsuc, Option, Some, None, codes, decimal, ◌==◌, nat_le, if◌then◌else◌}
use Rattle.std.specs.Str.{bytes_eq}
use Rattle.text.specs.Number.{is_number, value, fixed}
use Rattle.text.specs.Frequency.{in_band}
use Rattle.text.specs.Signed.{is_signed, signed_of}
use Rattle.make.specs.Shapes.{every, long, text_byte}
use Rattle.sorts.specs.declared.value.Modulation.{Modulation}
use Rattle.sorts.specs.declared.value.Modulation.TheVariants.{Auto, Am, Fm, Nfm, Wfm, Fmb}
use Rattle.sorts.specs.declared.value.NameText.{NameText}
use Rattle.sorts.specs.declared.value.NameText.TheVariants.{Blank, Own}
use Rattle.sorts.specs.declared.sort.StartingName.{StartingName}
use Rattle.sorts.specs.declared.sort.StartingName.TheVariants.{System, Site, Group, Channel, Talkgroup}

-- a number from low to high, in one to five digits
abbrev pub is_between : ℕ → ℕ → List ℕ → Bool
is_between low high t = is_number 5 t && (nat_le low (value t) && nat_le (value t) high)

-- a name has 1 to 16 bytes from 32 to 126, and no comma
abbrev pub is_name : List ℕ → Bool
is_name t = long 1 16 t && every text_byte t

-- a space
abbrev pub is_space : ℕ → Bool
is_space c = c == 32

-- only spaces
abbrev pub all_spaces : List ℕ → Bool
all_spaces t = every is_space t

-- a text as a name, if it is one: only spaces, or a name of its own
abbrev pub name_text : List ℕ → Option NameText
name_text t = if is_name t then Some (if all_spaces t then Blank else Own) else None

-- the names that new records have
abbrev pub start_text : StartingName → List ℕ
start_text System = codes "SYSTEM"
start_text Site = codes "SITE"
start_text Group = codes "GROUP"
start_text Channel = codes "CHANNEL"
start_text Talkgroup = codes "TGID"

-- only spaces give the starting name, and other names are their own standard form
abbrev pub standard_name : StartingName → List ℕ → List ℕ
standard_name start t = if all_spaces t then start_text start else t

-- a flag is set where its number is 1
abbrev pub flag_of : List ℕ → Bool
flag_of t = value t == 1

-- the text that shows a flag
abbrev pub flag_text : Bool → List ℕ
flag_text true = codes "1"
flag_text false = codes "0"

-- a word that stands for no number, or a number from 0 to high
abbrev pub is_number_or : List ℕ → ℕ → List ℕ → Bool
is_number_or word high t = bytes_eq t word || is_between 0 high t

-- the number that such a text writes, if it is not the word
abbrev pub number_unless : List ℕ → List ℕ → Option ℕ
number_unless word t = if bytes_eq t word then None else Some (value t)

-- the text that shows a number, or the word for none
abbrev pub number_or : List ℕ → Option ℕ → List ℕ
number_or word None = word
number_or word (Some n) = decimal n

-- a quick key is a dot, or a number from 0 to high
abbrev pub no_key : List ℕ
no_key = codes "."

-- a text that writes a quick key
abbrev pub is_quick_key : ℕ → List ℕ → Bool
is_quick_key high t = is_number_or no_key high t

-- the quick key that it writes
abbrev pub quick_key_of : List ℕ → Option ℕ
quick_key_of t = number_unless no_key t

-- the text that shows a quick key
abbrev pub quick_key_text : Option ℕ → List ℕ
quick_key_text key = number_or no_key key

-- a tag is NONE, or a number from 0 to 999
abbrev pub no_tag : List ℕ
no_tag = codes "NONE"

-- a text that writes a tag
abbrev pub is_tag : List ℕ → Bool
is_tag t = is_number_or no_tag 999 t

-- the tag that it writes
abbrev pub tag_of : List ℕ → Option ℕ
tag_of t = number_unless no_tag t

-- the text that shows a tag
abbrev pub tag_text : Option ℕ → List ℕ
tag_text tag = number_or no_tag tag

-- a modulation is one of six words
abbrev pub modulation_text : Modulation → List ℕ
modulation_text Auto = codes "AUTO"
modulation_text Am = codes "AM"
modulation_text Fm = codes "FM"
modulation_text Nfm = codes "NFM"
modulation_text Wfm = codes "WFM"
modulation_text Fmb = codes "FMB"

-- a text is a modulation's word
abbrev pub shows : List ℕ → Modulation → Bool
shows t m = bytes_eq t (modulation_text m)

-- a text that names a modulation
abbrev pub is_modulation : List ℕ → Bool
is_modulation t = shows t Auto || (shows t Am || (shows t Fm || (shows t Nfm || (shows t Wfm || shows t Fmb))))

-- the modulation that it names
abbrev pub modulation_of : List ℕ → Modulation
modulation_of t = if shows t Auto then Auto else (if shows t Am then Am else (if shows t Fm then Fm else (if shows t Nfm then Nfm else (if shows t Wfm then Wfm else Fmb))))

-- the numbers that a byte with a sign holds: -128 to 127
abbrev pub is_short_value : ℤ → Bool
is_short_value (pos n) = nat_le n 127
is_short_value (negsuc n) = nat_le (n + 1) 128

-- the delays with a sign: -10, -5, -2, 0, 1, 2, 5, 10, 30
abbrev pub is_delay_value : ℤ → Bool
is_delay_value (pos n) = n == 0 || (n == 1 || (n == 2 || (n == 5 || (n == 10 || n == 30))))
is_delay_value (negsuc n) = n + 1 == 2 || (n + 1 == 5 || n + 1 == 10)

-- a text that writes a number with a sign that a byte holds
abbrev pub is_short : List ℕ → Bool
is_short t = is_signed t && is_short_value (signed_of t)

-- a text that writes a delay
abbrev pub is_delay : List ℕ → Bool
is_delay t = is_signed t && is_delay_value (signed_of t)

-- the volume offsets: -3 to 3
abbrev pub is_offset_value : ℤ → Bool
is_offset_value (pos n) = nat_le n 3
is_offset_value (negsuc n) = nat_le (n + 1) 3

-- a text that writes a volume offset
abbrev pub is_offset : List ℕ → Bool
is_offset t = is_signed t && is_offset_value (signed_of t)

-- a frequency is shown with eight digits; a number of steps that is no frequency counts as 0
abbrev pub frequency_text : ℕ → List ℕ
frequency_text n = fixed 8 (if in_band n then n else 0)
