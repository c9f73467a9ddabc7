-- What holds of all sorts of field and all tables of sorts. Assumes nothing.
use Rattle.std.specs.Prelude.{◌≡◌, true}
use Rattle.make.specs.Rules.{FieldKeeps, Keeps}
use Rattle.sorts.specs.Plans.{Row, Plan, field_of, spec_of, row_fine, plan_fine}

-- every sort of field, under any name that fits it, keeps the rules for fields
abbrev pub SortsKeep : Type 0
SortsKeep = (R : Row) → row_fine R ≡ true → FieldKeeps (field_of R)

-- a table of sorts that passes its test keeps the rules for makes
abbrev pub PlansKeep : Type 0
PlansKeep = (P : Plan) → plan_fine P ≡ true → Keeps (spec_of P)
