-- What the search leaves to show of `behind`. Assumes nothing.
use Rattle.std.proofs.Common.{is_some, ap, sym, ◌∙◌, arith}
use Rattle.std.proofs.lemmas.Bool.{false≢true}
use Rattle.chain.specs.Entry.{found, entry, member_of}
use Rattle.chain.specs.View.{blocks_of}
use Rattle.chain.proofs.Seen.{loose}
use Rattle.chain.proofs.Moves.{top_within}
use Rattle.chain.proofs.Found.{in_table, link_is, next_is, used_test}
use Rattle.chain.proofs.chains.Chains.behind.Goals as goal

pub overflow_sub-x : goal.overflow_sub-x
overflow_sub-x c = (in_table _ c.args.self.now.sound c.args.x.number c.requires).0

pub bounds : goal.bounds
bounds c =
    let t = in_table _ c.args.self.now.sound c.args.x.number c.requires in
    let h = top_within _ (loose _ c.args.self.now.sound) in
    omega (arith, t.0, t.1, h)

pub returns-in-Used : goal.returns-in-Used
returns-in-Used c = c.new.ensures ∙ ap found (ap (λ l. (entry l).next) (sym c.in-Used.is) ∙ next_is _ c.args.self.now.sound c.args.x.number c.requires)

pub returns-in-Free : goal.returns-in-Free
returns-in-Free c =
    let t = in_table _ c.args.self.now.sound c.args.x.number c.requires in
    absurd (false≢true (ap (λ l. is_some (member_of l)) (sym c.in-Free.is ∙ link_is _ c.args.self.now.sound c.args.x.number t.0 t.1) ∙ used_test (blocks_of c.args.self.now) c.args.x.number ∙ c.requires))
