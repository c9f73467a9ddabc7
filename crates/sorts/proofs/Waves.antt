-- The modulation that a text names, found among all of them. Assumes nothing.
use Rattle.std.proofs.Common.{◌≡◌, ℕ, Bool, true, false, cond, ◌||◌, List, [], ◌∷◌, Option, Some, None, refl}
use Rattle.std.specs.List.{find}
use Rattle.std.specs.Option.{option_map}
use Rattle.sorts.specs.declared.value.Modulation.{Modulation}
use Rattle.sorts.specs.declared.value.Modulation.TheVariants.{Auto, Am, Fm, Nfm, Wfm, Fmb}
use Rattle.sorts.specs.Values.{shows, is_modulation, modulation_of}

-- all modulations
abbrev pub waves : List Modulation
waves = Auto ∷ Am ∷ Fm ∷ Nfm ∷ Wfm ∷ Fmb ∷ []

by_tests : (a b c d e f : Bool) → cond a (Some Auto) (cond b (Some Am) (cond c (Some Fm) (cond d (Some Nfm) (cond e (Some Wfm) (cond f (Some Fmb) None))))) ≡ cond (a || (b || (c || (d || (e || f))))) (Some (cond a Auto (cond b Am (cond c Fm (cond d Nfm (cond e Wfm Fmb)))))) None
by_tests true b c d e f = refl
by_tests false true c d e f = refl
by_tests false false true d e f = refl
by_tests false false false true e f = refl
by_tests false false false false true f = refl
by_tests false false false false false true = refl
by_tests false false false false false false = refl

-- the first that the text shows is the one that it names
pub wave_found : (t : List ℕ) → find (shows t) waves ≡ cond (is_modulation t) (Some (modulation_of t)) None
wave_found t = by_tests (shows t Auto) (shows t Am) (shows t Fm) (shows t Nfm) (shows t Wfm) (shows t Fmb)

-- a search that answers the modulation itself
pub found_itself : (r : Option Modulation) → option_map (λ m. m) r ≡ r
found_itself None = refl
found_itself (Some m) = refl
