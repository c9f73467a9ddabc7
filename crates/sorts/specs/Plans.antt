-- A make as a table of sorts. Assumes nothing.
use Rattle.std.specs.Prelude.{ℕ, Bool, true, false, not, ◌&&◌, List, [], ◌∷◌, map, length, nat_le, slice_index_or}
use Rattle.std.specs.Str.{bytes_eq}
use Rattle.std.specs.List.{list_all}
use Rattle.make.specs.declared.kind.Kind.{Kind}
use Rattle.make.specs.declared.kind.Kind.TheVariants.{System, Site, ChannelGroup, TalkgroupGroup, Channel, Talkgroup, TrunkFrequency}
use Rattle.make.specs.Data.{FieldSpec, Layout, MakeSpec, reserve_name}
use Rattle.make.specs.Shapes.{type_name, field_name}
use Rattle.sorts.specs.declared.sort.Sort.{Sort}
use Rattle.sorts.specs.declared.sort.Sort.TheVariants.{Reserve}
use Rattle.sorts.specs.Sorts.{legal_in, standard_in, start_in, sort_fine, is_reserve_sort}

-- a row of the table: a field's name and its sort
pub record Row : Type 0 where
  pub name : List ℕ
  pub sort : Sort

-- a row from its two parts
abbrev pub row : List ℕ → Sort → Row
row name sort = record { name = name; sort = sort }

-- the row of a reserve field
abbrev pub reserve_row : Row
reserve_row = row reserve_name Reserve

-- the rows of a kind, and how many of them belong to the first part
pub record Part : Type 0 where
  pub rows : List Row
  pub first : ℕ

-- the table of a make; both groups have the same part
pub record Plan : Type 0 where
  pub most : ℕ
  pub types : List (List ℕ)
  pub system : Part
  pub site : Part
  pub group : Part
  pub channel : Part
  pub talkgroup : Part
  pub trunk : Part

-- the part of the table for a kind
abbrev pub part_of : Plan → Kind → Part
part_of P System = P.system
part_of P Site = P.site
part_of P ChannelGroup = P.group
part_of P TalkgroupGroup = P.group
part_of P Channel = P.channel
part_of P Talkgroup = P.talkgroup
part_of P TrunkFrequency = P.trunk

-- the row with a number, counted from 0; past the last one stands a reserve field
abbrev pub row_at : Plan → Kind → ℕ → Row
row_at P k f = slice_index_or (part_of P k).rows f reserve_row

-- the sort of a field
abbrev pub sort_at : Plan → Kind → ℕ → Sort
sort_at P k f = (row_at P k f).sort

-- the field that a row says
abbrev pub field_of : Row → FieldSpec
field_of R = record { name = R.name; legal = legal_in R.sort; standard = standard_in R.sort; starting = start_in R.sort }

-- the fields that rows say
abbrev pub fields_from : List Row → List FieldSpec
fields_from Rs = map field_of Rs

-- the fields of a kind that a part says
abbrev pub layout_of : Part → Layout
layout_of p = record { fields = fields_from p.rows; first = p.first }

-- the make that the table says
abbrev pub spec_of : Plan → MakeSpec
spec_of P = record { most = P.most; types = P.types; layout = λ k. layout_of (part_of P k) }

-- a test of the whole table, which says that the make keeps the rules
abbrev pub same : Bool → Bool → Bool
same true b = b
same false b = not b

-- a row's name is fit for a field, is RSV for a reserve field alone, and a number can start
abbrev pub row_fine : Row → Bool
row_fine R = field_name R.name && (same (bytes_eq R.name reserve_name) (is_reserve_sort R.sort) && sort_fine R.sort)

-- every row passes
abbrev pub rows_fine : List Row → Bool
rows_fine Rs = list_all row_fine Rs

-- 1 to 20 rows, the first part at most all of them, and every row passes
abbrev pub part_fine : Part → Bool
part_fine p = (nat_le 1 (length p.rows) && nat_le (length p.rows) 20) && (nat_le p.first (length p.rows) && rows_fine p.rows)

-- every name is fit for a type
abbrev pub names_fine : List (List ℕ) → Bool
names_fine ts = list_all type_name ts

-- a name is none of the others
abbrev pub none : List ℕ → List (List ℕ) → Bool
none t us = list_all (λ u. not (bytes_eq t u)) us

-- no name stands twice
abbrev pub apart : List (List ℕ) → Bool
apart [] = true
apart (t ∷ ts) = none t ts && apart ts

-- block maximum, types and all parts are as the rules for makes say
abbrev pub plan_fine : Plan → Bool
plan_fine P = ((nat_le 1 P.most && nat_le P.most 45000) && ((nat_le 2 (length P.types) && nat_le (length P.types) 12) && (names_fine P.types && apart P.types))) && (part_fine P.system && (part_fine P.site && (part_fine P.group && (part_fine P.channel && (part_fine P.talkgroup && part_fine P.trunk)))))
