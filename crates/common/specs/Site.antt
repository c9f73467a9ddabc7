-- The settings of a site behind its name: their rows, texts, and what a text changes. Assumes nothing.
use Rattle.std.specs.Prelude.{ℕ, List, [], ◌∷◌, false, None, codes, decimal}
use Rattle.text.specs.Number.{value}
use Rattle.sorts.specs.declared.sort.Sort.TheVariants.{Number, QuickKey}
use Rattle.sorts.specs.Sorts.{flag}
use Rattle.sorts.specs.Values.{quick_key_of, quick_key_text, flag_of, flag_text}
use Rattle.sorts.specs.Plans.{Row, row}
use Rattle.common.specs.Scheme.{Scheme, listed}
use Rattle.common.specs.declared.site.SiteSettings.{SiteSettings}

-- the name and the sort of each field
abbrev pub site_rows : List Row
site_rows =
    row (codes "QUICK_KEY") (QuickKey 99) ∷
    row (codes "HLD") (Number 0 255) ∷
    row (codes "LOUT") flag ∷ []

-- the settings of a new record
abbrev pub new_site : SiteSettings
new_site = record { key = None; hold = 0; lockout = false }

-- the text of each field
abbrev pub site_texts : SiteSettings → List (List ℕ)
site_texts s = quick_key_text s.key ∷ decimal s.hold ∷ flag_text s.lockout ∷ []

-- the settings after a text for each field
abbrev pub site_puts : SiteSettings → List ℕ → List SiteSettings
site_puts s t =
    record s { key = quick_key_of t } ∷
    record s { hold = value t } ∷
    record s { lockout = flag_of t } ∷ []

-- what the settings of a site hold, show and become
abbrev pub site_scheme : Scheme SiteSettings
site_scheme = listed site_rows 3 new_site site_texts site_puts
