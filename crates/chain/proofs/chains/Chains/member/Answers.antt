-- What the search leaves to show of `member`. Assumes nothing.
use Rattle.std.proofs.Common.{inl, inr, ap, sym, ◌∙◌, arith}
use Rattle.chain.specs.Entry.{member_of}
use Rattle.chain.proofs.Seen.{loose}
use Rattle.chain.proofs.Moves.{top_within}
use Rattle.chain.proofs.Found.{link_is, link_out}
use Rattle.chain.proofs.chains.Chains.member.Goals as goal

pub bounds : goal.bounds
bounds c = let h = top_within _ (loose _ c.args.self.now.sound) in omega arith

pub returns-then-number-eq0 : goal.returns-then-number-eq0
returns-then-number-eq0 c = ap member_of (link_out _ c.args.self.now.sound c.args.x.number (elim c.then-number-eq0.either [ inl z ↦ inl z | inr z ↦ inr z.1 ]))

pub returns-in-Used : goal.returns-in-Used
returns-in-Used c = ap member_of (sym c.in-Used.is ∙ link_is _ c.args.self.now.sound c.args.x.number (omega (arith, c.if-number-eq0.false)) c.if-number-count.false)

pub returns-in-Free : goal.returns-in-Free
returns-in-Free c = ap member_of (sym c.in-Free.is ∙ link_is _ c.args.self.now.sound c.args.x.number (omega (arith, c.if-number-eq0.false)) c.if-number-count.false)
