-- A name and the fields that hold it. Assumes nothing.
use Rattle.std.proofs.Common.{◌≡◌, ℕ, ◌+◌, ◌-◌, ◌≤◌, true, leb, List, length, take, replicate, sym, ap, ◌∙◌, arith, length-append}
use Rattle.std.proofs.Math.ListN.{length-take, length-replicate}
use Rattle.std.proofs.lemmas.Bool.{and_parts, leb-true}
use Rattle.make.specs.Shapes.{long, every, text_byte}
use Rattle.sorts.specs.Values.{is_name}
use Rattle.common.specs.Name.{padded}

-- a name is short
pub name_short : (t : List ℕ) → is_name t ≡ true → length t ≤ 16
name_short t h =
    let p = and_parts (long 1 16 t) (every text_byte t) h in
    leb-true (length t) 16 (and_parts (leb 1 (length t)) (leb (length t) 16) p.0).1

-- as many bytes count as the length says
held_length : (len : ℕ) (bytes : List ℕ) → len ≤ 16 → bytes ≡ padded (take len bytes) → length (take len bytes) ≡ len
held_length len bytes short zeros =
    let t = take len bytes in
    let whole : length bytes ≡ length t + (16 - length t) = ap length zeros ∙ length-append t (replicate (16 - length t) 0) ∙ ap (λ n. length t + n) (length-replicate (16 - length t) 0) in
    omega (arith, length-take len bytes, whole)

-- the name gives its fields back
pub fields_back : {N : Type 0} (len : ℕ) (bytes : List ℕ) → len ≤ 16 → bytes ≡ padded (take len bytes) → (make : List ℕ → ℕ → N) → make (padded (take len bytes)) (length (take len bytes)) ≡ make bytes len
fields_back len bytes short zeros make =
    ap (λ n. make (padded (take len bytes)) n) (held_length len bytes short zeros) ∙ ap (λ xs. make xs len) (sym zeros)
