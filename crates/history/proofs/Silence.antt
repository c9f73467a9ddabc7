-- Replies that tell nothing, and replies that tell of an accepted line. Assumes nothing.
use Rattle.std.proofs.Common.{◌≡◌, ℕ, true, false, List, [], ◌∷◌, None, codes, refl}
use Rattle.std.proofs.lemmas.Slice.Eq.{bytes_eq-Decides}
use Rattle.ledger.specs.declared.command.Command.{Command}
use Rattle.ledger.specs.declared.command.Command.TheVariants.{Prg, Epg, Clr, Sct, Sih, Sit, Rmb, Csy, Agc, Ast, Agt, Acc, Act, Dsy, Dgr, Dch, Fwd, Rev, Trn, Sin, Sif, Gin, Cin, Tin, Tfq}
use Rattle.ledger.specs.Commands.{name_of}
use Rattle.ledger.specs.Replies.{orer, err, ng, reply, shown}
use Rattle.history.specs.Told.{index_told}
use Rattle.history.specs.History.{accepted}

-- no index in the reply of a creation without a free block
pub none_told : (c : Command) → index_told (reply (name_of c) (shown 0 ∷ [])) ≡ None
none_told Prg = refl
none_told Epg = refl
none_told Clr = refl
none_told Sct = refl
none_told Sih = refl
none_told Sit = refl
none_told Rmb = refl
none_told Csy = refl
none_told Agc = refl
none_told Ast = refl
none_told Agt = refl
none_told Acc = refl
none_told Act = refl
none_told Dsy = refl
none_told Dgr = refl
none_told Dch = refl
none_told Fwd = refl
none_told Rev = refl
none_told Trn = refl
none_told Sin = refl
none_told Sif = refl
none_told Gin = refl
none_told Cin = refl
none_told Tin = refl
none_told Tfq = refl

-- a reply that tells nothing: no index, and not OK
pub record Silent (r : List ℕ) : Type 0 where
  pub index : index_told r ≡ None
  pub got : (c : Command) → accepted c r ≡ false

not_ok_err : (c : Command) → accepted c err ≡ false
not_ok_err Prg = refl
not_ok_err Epg = refl
not_ok_err Clr = refl
not_ok_err Sct = refl
not_ok_err Sih = refl
not_ok_err Sit = refl
not_ok_err Rmb = refl
not_ok_err Csy = refl
not_ok_err Agc = refl
not_ok_err Ast = refl
not_ok_err Agt = refl
not_ok_err Acc = refl
not_ok_err Act = refl
not_ok_err Dsy = refl
not_ok_err Dgr = refl
not_ok_err Dch = refl
not_ok_err Fwd = refl
not_ok_err Rev = refl
not_ok_err Trn = refl
not_ok_err Sin = refl
not_ok_err Sif = refl
not_ok_err Gin = refl
not_ok_err Cin = refl
not_ok_err Tin = refl
not_ok_err Tfq = refl

pub silent_err : Silent err
silent_err = record { index = refl; got = not_ok_err }

not_ok_ng : (c : Command) → accepted c ng ≡ false
not_ok_ng Prg = refl
not_ok_ng Epg = refl
not_ok_ng Clr = refl
not_ok_ng Sct = refl
not_ok_ng Sih = refl
not_ok_ng Sit = refl
not_ok_ng Rmb = refl
not_ok_ng Csy = refl
not_ok_ng Agc = refl
not_ok_ng Ast = refl
not_ok_ng Agt = refl
not_ok_ng Acc = refl
not_ok_ng Act = refl
not_ok_ng Dsy = refl
not_ok_ng Dgr = refl
not_ok_ng Dch = refl
not_ok_ng Fwd = refl
not_ok_ng Rev = refl
not_ok_ng Trn = refl
not_ok_ng Sin = refl
not_ok_ng Sif = refl
not_ok_ng Gin = refl
not_ok_ng Cin = refl
not_ok_ng Tin = refl
not_ok_ng Tfq = refl

pub silent_ng : Silent ng
silent_ng = record { index = refl; got = not_ok_ng }

not_ok_orer : (c : Command) → accepted c orer ≡ false
not_ok_orer Prg = refl
not_ok_orer Epg = refl
not_ok_orer Clr = refl
not_ok_orer Sct = refl
not_ok_orer Sih = refl
not_ok_orer Sit = refl
not_ok_orer Rmb = refl
not_ok_orer Csy = refl
not_ok_orer Agc = refl
not_ok_orer Ast = refl
not_ok_orer Agt = refl
not_ok_orer Acc = refl
not_ok_orer Act = refl
not_ok_orer Dsy = refl
not_ok_orer Dgr = refl
not_ok_orer Dch = refl
not_ok_orer Fwd = refl
not_ok_orer Rev = refl
not_ok_orer Trn = refl
not_ok_orer Sin = refl
not_ok_orer Sif = refl
not_ok_orer Gin = refl
not_ok_orer Cin = refl
not_ok_orer Tin = refl
not_ok_orer Tfq = refl

pub silent_orer : Silent orer
silent_orer = record { index = refl; got = not_ok_orer }

pub ok_got : (c : Command) → accepted c (reply (name_of c) (codes "OK" ∷ [])) ≡ true
ok_got c = (bytes_eq-Decides (reply (name_of c) (codes "OK" ∷ [])) (reply (name_of c) (codes "OK" ∷ []))).1 refl
