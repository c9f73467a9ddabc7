-- What the search leaves to show of `unlink`. Assumes nothing.
use Rattle.std.proofs.Common.{refl, ap, ◌∙◌, arith}
use Rattle.chain.specs.Entry.{ends_in, link_at, hung}
use Rattle.chain.proofs.Numbers.{within_more}
use Rattle.chain.proofs.Moves.{member_within}
use Rattle.chain.proofs.Steps.{cut_bounds, cut_within, cut_loose, cut_blocks, cut_later, not_free}
use Rattle.chain.proofs.tables.Tables.unlink.Goals as goal

pub overflow_sub-link : goal.overflow_sub-link
overflow_sub-link c = let h = member_within _ _ c.requires.loose c.requires.member in omega arith

pub bounds-self-x : goal.bounds-self-x
bounds-self-x c = let h = member_within _ _ c.requires.loose c.requires.member in omega arith

pub join-requires : goal.join-requires
join-requires c = let h = cut_bounds _ _ c.requires.loose c.requires.member _ c.in-Used.is in record { previous = omega arith; next = omega arith }

pub ends_of-ends-requires : goal.ends_of-ends-requires
ends_of-ends-requires c =
    let h = cut_bounds _ _ c.requires.loose c.requires.member _ c.in-Used.is in
    within_more _ _ _ (omega (arith, c.join.auto.links)) (cut_within _ _ c.requires.loose c.requires.member _ c.in-Used.is)

pub set_ends-requires : goal.set_ends-requires
set_ends-requires c =
    let h = cut_bounds _ _ c.requires.loose c.requires.member _ c.in-Used.is in
    within_more _ _ _ (omega (arith, c.join.auto.links)) (cut_within _ _ c.requires.loose c.requires.member _ c.in-Used.is)

pub returns-in-Used : goal.returns-in-Used
returns-in-Used c =
    let p = c.args.self.now in
    let p' = c.set_ends.new.self in
    let m = c.in-Used.member in
    let table = c.join.ensures in
    let e_is = c.ends_of-ends.ensures ∙ ap (λ z. ends_in p.root (link_at z) m.chain) table in
    let links_is = c.set_ends.ensures.links ∙ ap (λ z. hung z m.chain c.without.result) table in
    record {
      loose = cut_loose p p' c.args.x.number c.requires.loose c.requires.member m c.in-Used.is _ _ e_is c.without.ensures links_is c.set_ends.ensures.root c.set_ends.ensures.free c.set_ends.ensures.count c.set_ends.ensures.spare;
      blocks = cut_blocks p p' c.args.x.number c.requires.loose c.requires.member m c.in-Used.is _ _ e_is c.without.ensures links_is c.set_ends.ensures.root c.set_ends.ensures.free c.set_ends.ensures.count c.set_ends.ensures.spare;
      spared = record { count = c.set_ends.ensures.count; later = cut_later p p' c.args.x.number c.requires.loose c.requires.member m c.in-Used.is _ _ e_is c.without.ensures links_is c.set_ends.ensures.root c.set_ends.ensures.free c.set_ends.ensures.count c.set_ends.ensures.spare };
    }

pub returns-in_default-clause-blocks : goal.returns-in_default-clause-blocks
returns-in_default-clause-blocks c = absurd (not_free _ c.args.x.number c.requires.loose c.requires.member _ refl (λ m is. c.in_default.not-Used m is))
