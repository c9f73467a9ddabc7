-- The rules that every make keeps. Assumes nothing.
use Rattle.std.specs.Prelude.{◌≡◌, ℕ, ◌<◌, ◌≤◌, Bool, true, false, List, [], length, ◌≢◌, slice_index_or}
use Rattle.std.specs.Str.{bytes_eq}
use Rattle.make.specs.declared.kind.Kind.{Kind}
use Rattle.make.specs.declared.kind.Kind.TheVariants.{ChannelGroup, TalkgroupGroup}
use Rattle.make.specs.Data.{FieldSpec, MakeSpec, reserve_name, fields_of, first_of, field_at}
use Rattle.make.specs.Shapes.{type_name, field_name, text_shape}

-- a field's name tells whether it is a reserve field
abbrev pub is_reserve : FieldSpec → Bool
is_reserve F = bytes_eq F.name reserve_name

-- the rules for one field
pub record FieldKeeps (F : FieldSpec) : Type 0 where
  -- its name has 1 to 12 capitals, digits, _ or /
  pub named : field_name F.name ≡ true
  -- a legal text has 1 to 24 bytes from 32 to 126, and no comma
  pub shaped : (t : List ℕ) → F.legal t ≡ true → text_shape t ≡ true
  -- a standard form is legal
  pub settled : (t : List ℕ) → F.legal t ≡ true → F.legal (F.standard t) ≡ true
  -- a standard form is its own standard form
  pub stable : (t : List ℕ) → F.legal t ≡ true → F.standard (F.standard t) ≡ F.standard t
  -- a starting text is legal, and its own standard form
  pub started : is_reserve F ≡ false → (F.legal F.starting ≡ true) × (F.standard F.starting ≡ F.starting)
  -- but a reserve field has no legal text, and starts empty
  pub reserved : is_reserve F ≡ true → ((t : List ℕ) → F.legal t ≡ false) × (F.starting ≡ [])

-- the rules for a make
pub record Keeps (S : MakeSpec) : Type 0 where
  -- the block maximum is from 1 to 45000
  pub some : 1 ≤ S.most
  pub bounded : S.most ≤ 45000
  -- there are 2 to 12 system types
  pub two_types : 2 ≤ length S.types
  pub few_types : length S.types ≤ 12
  -- a type's name has 1 to 4 capitals or digits
  pub typed : (n : ℕ) → n < length S.types → type_name (slice_index_or S.types n []) ≡ true
  -- two types have different names
  pub apart : (m n : ℕ) → m < n → n < length S.types → slice_index_or S.types m [] ≢ slice_index_or S.types n []
  -- both kinds of group have the same fields
  pub groups : S.layout ChannelGroup ≡ S.layout TalkgroupGroup
  -- each kind has 1 to 20 fields
  pub one_field : (k : Kind) → 1 ≤ length (fields_of S k)
  pub few_fields : (k : Kind) → length (fields_of S k) ≤ 20
  -- the first part is at most all of them
  pub fronted : (k : Kind) → first_of S k ≤ length (fields_of S k)
  -- each field keeps the rules for fields
  pub field : (k : Kind) (f : ℕ) → FieldKeeps (field_at S k f)
