-- The settings of a channel behind its name: their rows, texts, and what a text changes. Assumes nothing.
use Rattle.std.specs.Prelude.{ℕ, List, [], ◌∷◌, false, codes, decimal}
use Rattle.text.specs.Number.{value}
use Rattle.sorts.specs.declared.value.Modulation.TheVariants.{Auto}
use Rattle.sorts.specs.declared.sort.Sort.TheVariants.{Number, Frequency, Modulation}
use Rattle.sorts.specs.Sorts.{flag}
use Rattle.sorts.specs.Values.{flag_of, flag_text, modulation_of, modulation_text, frequency_text}
use Rattle.sorts.specs.Plans.{Row, row}
use Rattle.common.specs.Scheme.{Scheme, listed}
use Rattle.bcd996t.specs.declared.channel.ChannelSettings.{ChannelSettings}

-- the name and the sort of each field
abbrev pub channel_rows : List Row
channel_rows =
    row (codes "FRQ") Frequency ∷
    row (codes "MOD") Modulation ∷
    row (codes "CTCSS/DCS") (Number 0 231) ∷
    row (codes "TLOCK") flag ∷
    row (codes "LOUT") flag ∷
    row (codes "PRI") flag ∷
    row (codes "ATT") flag ∷
    row (codes "ALT") (Number 0 9) ∷
    row (codes "ALTL") (Number 0 15) ∷
    row (codes "RECORD") flag ∷
    row (codes "AUDIO_TYPE") (Number 0 2) ∷ []

-- the settings of a new record
abbrev pub new_channel : ChannelSettings
new_channel = record { frequency = 0; modulation = Auto; tone = 0; tone_lock = false; lockout = false; priority = false; attenuation = false; alert = 0; alert_level = 0; recorded = false; audio_type = 0 }

-- the text of each field
abbrev pub channel_texts : ChannelSettings → List (List ℕ)
channel_texts s =
    frequency_text s.frequency ∷ modulation_text s.modulation ∷ decimal s.tone ∷ flag_text s.tone_lock ∷ flag_text s.lockout ∷ flag_text s.priority ∷ flag_text s.attenuation ∷ decimal s.alert ∷ decimal s.alert_level ∷ flag_text s.recorded ∷ decimal s.audio_type ∷ []

-- the settings after a text for each field
abbrev pub channel_puts : ChannelSettings → List ℕ → List ChannelSettings
channel_puts s t =
    record s { frequency = value t } ∷
    record s { modulation = modulation_of t } ∷
    record s { tone = value t } ∷
    record s { tone_lock = flag_of t } ∷
    record s { lockout = flag_of t } ∷
    record s { priority = flag_of t } ∷
    record s { attenuation = flag_of t } ∷
    record s { alert = value t } ∷
    record s { alert_level = value t } ∷
    record s { recorded = flag_of t } ∷
    record s { audio_type = value t } ∷ []

-- what the settings of a channel hold, show and become
abbrev pub channel_scheme : Scheme ChannelSettings
channel_scheme = listed channel_rows 9 new_channel channel_texts channel_puts
