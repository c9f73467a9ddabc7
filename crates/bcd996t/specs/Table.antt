-- The table of the BCD996T: its block maximum, its types, and the fields of each kind. Assumes nothing.
use Rattle.std.specs.Prelude.{ℕ, List, [], ◌∷◌, codes}
use Rattle.make.specs.Data.{MakeSpec}
use Rattle.sorts.specs.declared.sort.StartingName.TheVariants.{System, Site, Group, Channel, Talkgroup}
use Rattle.sorts.specs.Plans.{Row, Part, Plan, spec_of}
use Rattle.sorts.specs.Settings.{with_name}
use Rattle.common.specs.Site.{site_rows}
use Rattle.common.specs.Group.{group_rows}
use Rattle.common.specs.Trunk.{trunk_rows}
use Rattle.bcd996t.specs.System.{system_rows}
use Rattle.bcd996t.specs.Channel.{channel_rows}
use Rattle.bcd996t.specs.Talkgroup.{talkgroup_rows}

-- the names of the system types, the conventional one first
abbrev pub type_names : List (List ℕ)
type_names = codes "CNV" ∷ codes "MOT1" ∷ codes "MOT2" ∷ codes "EDC" ∷ codes "EDS" ∷ codes "LTR" ∷ []

-- the rows of a kind, and how many belong to the first part
abbrev part : List Row → ℕ → Part
part rows first = record { rows = rows; first = first }

-- the table
abbrev pub plan : Plan
plan = record {
  most = 15000;
  types = type_names;
  system = part (with_name System system_rows) 5;
  site = part (with_name Site site_rows) 4;
  group = part (with_name Group group_rows) 3;
  channel = part (with_name Channel channel_rows) 10;
  talkgroup = part (with_name Talkgroup talkgroup_rows) 6;
  trunk = part trunk_rows 3;
}

-- the make that the table says
abbrev pub bcd996t : MakeSpec
bcd996t = spec_of plan
