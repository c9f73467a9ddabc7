-- What the search leaves to show of `create`. Assumes nothing.
use Rattle.std.proofs.Common.{sym, ◌∙◌, arith, rules}
use Rattle.chain.specs.View.{free_of}
use Rattle.chain.specs.Rows.{head_or}
use Rattle.chain.proofs.Seen.{loose}
use Rattle.chain.proofs.Moves.{top_within, free_head}
use Rattle.chain.proofs.Numbers.{found_number}
use Rattle.pool.proofs.pool.Pool.create.Goals as goal

pub offset_bounds-self-number : goal.offset_bounds-self-number
offset_bounds-self-number g c = let h = top_within _ (loose _ c.args.self.now.chains.sound) in let e = free_head _ (loose _ c.args.self.now.chains.sound) in search rules

pub bounds-self-number : goal.bounds-self-number
bounds-self-number g c =
    let h = top_within _ (loose _ c.args.self.now.chains.sound) in
    let e = free_head _ (loose _ c.args.self.now.chains.sound) in
    let f = found_number (head_or 0 (free_of c.args.self.now.chains)) c.in_ok-x.x (sym c.in_ok-x.was ∙ c.append.ensures.answer) in
    omega (arith, h, e, f, c.number.ensures, c.args.self.now.roomy)
