-- What the search leaves to show of `append`. Assumes nothing.
use Rattle.std.proofs.Common.{length, sym, ap, ◌∙◌, arith, length-set}
use Rattle.chain.specs.Entry.{found, number, hung, ends_with, root_with}
use Rattle.chain.proofs.Numbers.{within_more, found_number, found_none}
use Rattle.chain.proofs.Seen.{loose}
use Rattle.chain.proofs.Moves.{top_within, free_head, free_none, none_created, spare_some, may_within, tail_within}
use Rattle.chain.proofs.Steps.{put_behind, put_sound, put_blocks, put_later}
use Rattle.chain.proofs.tables.Tables.append.Goals as goal

pub returns-in_err-x-clause-answer : goal.returns-in_err-x-clause-answer
returns-in_err-x-clause-answer c =
    let p = c.args.self.now in
    c.from_residual.ensures ∙ (sym c.in_err-x.was ∙ c.new.ensures) ∙ ap found (free_head p (loose p c.requires.sound))

pub returns-in_err-x-clause-blocks : goal.returns-in_err-x-clause-blocks
returns-in_err-x-clause-blocks c =
    let p = c.args.self.now in
    none_created _ (number c.args.chain) (free_none p (loose p c.requires.sound) (found_none p.free (sym c.in_err-x.was ∙ c.new.ensures)))

pub ends_of-ends-requires : goal.ends_of-ends-requires
ends_of-ends-requires c = let p = c.args.self.now in let s = loose _ c.requires.sound in within_more p.count _ c.args.chain (top_within p s).1 (may_within p c.args.chain s c.requires.living)

pub take_front-requires-clause-upto : goal.take_front-requires-clause-upto
take_front-requires-clause-upto c = let h = top_within _ (loose _ c.requires.sound) in omega (arith, h)

pub take_front-requires-clause-some : goal.take_front-requires-clause-some
take_front-requires-clause-some c = let p = c.args.self.now in spare_some p (loose p c.requires.sound) (found_number p.free c.in_ok-x.x (sym c.in_ok-x.was ∙ c.new.ensures)).1

pub bounds-self-x : goal.bounds-self-x
bounds-self-x c =
    let p = c.args.self.now in
    let h = top_within p (loose p c.requires.sound) in
    let k = found_number p.free c.in_ok-x.x (sym c.in_ok-x.was ∙ c.new.ensures) in
    omega (arith, h, k, ap length c.take_front.ensures.links)

pub set_beside-requires : goal.set_beside-requires
set_beside-requires c =
    let p = c.args.self.now in
    let h = top_within _ (loose _ c.requires.sound) in
    simp length-set (omega (arith, h, ap length c.take_front.ensures.links, ap (λ z. z.tail) c.ends_of-ends.ensures, tail_within p c.args.chain (loose _ c.requires.sound) c.requires.living))

pub set_ends-requires : goal.set_ends-requires
set_ends-requires c =
    let p = c.args.self.now in
    let s = loose _ c.requires.sound in
    within_more p.count _ c.args.chain (let h = top_within p s in omega (arith, h, ap length c.take_front.ensures.links, simp length-set at c.set_beside.auto.links)) (may_within p c.args.chain s c.requires.living)

pub returns : goal.returns
returns c =
    let p = c.args.self.now in
    let p' = c.set_ends.new.self in
    let d = c.args.chain in
    let s = c.requires.sound in
    let e = c.ends_of-ends.result in
    let f = c.take_front.ensures in
    let k = found_number p.free c.in_ok-x.x (sym c.in_ok-x.was ∙ c.new.ensures) in
    let links_is = c.set_ends.ensures.links ∙ ap (λ z. hung z d c.with.result) c.set_beside.ensures ∙ ap (hung _ d) c.with.ensures ∙ ap (λ t. put_behind t d c.in_ok-x.x.number e) f.links ∙ ap (λ x. put_behind p.links.now d x e) (sym k.0) in
    let root_is = c.set_ends.ensures.root ∙ ap (λ r. root_with r d c.with.result) f.root ∙ ap (root_with p.root d) c.with.ensures ∙ ap (λ x. root_with p.root d (ends_with e x)) (sym k.0) in
    let free_is = c.set_ends.ensures.free ∙ f.free in
    let count_is = c.set_ends.ensures.count ∙ f.count in
    let spare_is = c.set_ends.ensures.spare ∙ f.spare in
    record {
      sound = put_sound p p' d s c.requires.living k.1 e c.ends_of-ends.ensures links_is root_is free_is count_is spare_is;
      answer = sym c.in_ok-x.was ∙ c.new.ensures ∙ ap found (free_head p (loose p s));
      blocks = put_blocks p p' d s c.requires.living k.1 e c.ends_of-ends.ensures links_is root_is free_is count_is spare_is;
      spared = record { count = count_is; later = put_later p p' d s c.requires.living k.1 e c.ends_of-ends.ensures links_is root_is free_is count_is spare_is };
    }
