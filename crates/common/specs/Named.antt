-- Settings behind a name: what they hold, show and become. Assumes nothing.
use Rattle.std.specs.Prelude.{ℕ, zero, suc, ◌+◌, List, ◌∷◌}
use Rattle.sorts.specs.declared.sort.StartingName.{StartingName}
use Rattle.sorts.specs.Values.{start_text}
use Rattle.sorts.specs.Settings.{with_name}
use Rattle.common.specs.declared.named.Named.{Named}
use Rattle.common.specs.Name.{written_name}
use Rattle.common.specs.Scheme.{Scheme}

-- new settings, behind the starting name
abbrev pub new_named : {S : Type 0} → StartingName → S → Named S
new_named start s = record { name = start_text start; settings = s }

-- the name is the first text
abbrev pub named_texts : {S : Type 0} → Scheme S → Named S → List (List ℕ)
named_texts H n = n.name ∷ H.texts n.settings

-- a text for the first field is a name
abbrev pub written_named : {S : Type 0} → StartingName → Scheme S → Named S → ℕ → List ℕ → Named S
written_named start H n zero t = record n { name = written_name n.name start t }
written_named start H n (suc f) t = record n { settings = H.written n.settings f t }

-- what named settings hold, show and become
abbrev pub named : {S : Type 0} → StartingName → Scheme S → Scheme (Named S)
named start H = record {
  rows = with_name start H.rows;
  first = H.first + 1;
  blank = new_named start H.blank;
  texts = named_texts H;
  written = written_named start H;
}
