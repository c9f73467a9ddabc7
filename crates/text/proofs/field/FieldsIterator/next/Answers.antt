use Rattle.std.proofs.Common.{◌≡◌, position, ℕ, ◌+◌, length, List, ◌∷◌, Option, Some, None, take, drop, sym, refl, ap, ◌∙◌, arith}
use Rattle.std.proofs.lemmas.List.{take_rest}
use Rattle.std.proofs.lemmas.Grind.{common_steps}
use Rattle.std.specs.Option.{option_map, unwrap_or}
use Rattle.text.specs.declared.field.Part.{Part}
use Rattle.text.specs.declared.field.Fields.{Fields}
use Rattle.text.specs.Cuts.{is_comma}
use Rattle.text.specs.Fields.{cuts_from, fields_left, text_of, Placed, IsField}
use Rattle.text.proofs.Pieces.{cut_here, take_own}
use Rattle.text.proofs.field.FieldsIterator.next.Goals as goal

text_is : (f : Option Part) (t : List ℕ) (at : ℕ) → IsField f t at → text_of f ≡ t
text_is None t at h = sym h
text_is (Some p) t at h = h.0

placed : (f : Option Part) (t : List ℕ) (at : ℕ) (c : Fields) → IsField f t at → c.start ≡ Some at → take (length t) (drop at c.line.now) ≡ t → Placed f c
placed None t at c h s e = tt
placed (Some p) t at c h s e =
    let b = h.0 in
    (rw b h.1, record { place = s ∙ ap Some (sym h.2); stand = rw (b, h.2) e })

pub returns-clause-steps : goal.returns-clause-steps
returns-clause-steps c =
    let line = c.args.self.now.line.now in
    let rest = c.in_ok-rest.rest.now in
    let at = c.in_ok-at.at in
    let start : c.args.self.now.start ≡ Some at = cc in
    let b = c.in_ok-rest.ensures.lookup.0 in
    let e : rest ≡ drop at line = b.2 ∙ take_rest line at in
    let next : c.map-self.result ≡ option_map (λ k. at + k + 1) (position is_comma rest) = grind (arith, common_steps) in
    let n : c.unwrap_or.result ≡ unwrap_or (position is_comma rest) (length rest) = c.unwrap_or.ensures ∙ ap (λ p. unwrap_or p (length rest)) c.comma_in-comma.ensures in
    let here = cut_here line rest at b.0 e in
    let text = text_is c.field_of.result (take c.unwrap_or.result rest) at c.field_of.ensures in
    let left : fields_left c.args.self.now ≡ text_of c.field_of.result ∷ fields_left (record { line = c.args.self.now.line; start = c.map-self.result }) =
    ap (cuts_from line) start ∙ here ∙ ap (λ k. take k rest ∷ cuts_from line (option_map (λ k. at + k + 1) (position is_comma rest))) (sym n) ∙ ap (λ t. t ∷ cuts_from line (option_map (λ k. at + k + 1) (position is_comma rest))) (sym text) ∙ ap (λ p. text_of c.field_of.result ∷ cuts_from line p) (sym next) in
    (left, (placed c.field_of.result (take c.unwrap_or.result rest) at c.args.self.now c.field_of.ensures start (ap (take (length (take c.unwrap_or.result rest))) (sym e) ∙ take_own c.unwrap_or.result rest), refl))

pub returns-clause-goes : goal.returns-clause-goes
returns-clause-goes c = let long = ap length (returns-clause-steps c).0 in record { on = λ _. (tt, tt, omega (arith, long)); keeps = tt; rests = λ _. tt }
