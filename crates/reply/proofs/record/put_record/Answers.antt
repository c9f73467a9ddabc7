use Rattle.std.proofs.Common.{◌≡◌, ◌≤◌, ◌++◌, length, slice_range, take, drop, ap, ◌∙◌, subst, arith}
use Rattle.make.specs.Data.{first_of, fields_of}
use Rattle.ledger.specs.Replies.{lead}
use Rattle.reply.specs.Linked.{pieces_of}
use Rattle.reply.specs.Lists.{Lists}
use Rattle.reply.proofs.Joins.{both, parts_joined}
use Rattle.reply.proofs.record.put_record.Goals as goal

pub returns-clause-texts : goal.returns-clause-texts
returns-clause-texts g c =
    let S = g.M.Make.spec in
    let x = c.args.record.now in
    let k = g.M.Make.kindof x in
    let ts = g.M.Make.texts x in
    let K = g.met.M.Make.keeps in
    let kk = c.kind-kind.result in
    let first = c.first_part-first.result in
    let count = c.field_count-count.result in
    let p = pieces_of c.args.links in
    let l = lead S k (g.M.Make.systemtype x) in
    let few : count ≤ 20 = omega (arith, K.few_fields kk, c.field_count-count.ensures.value) in
    let order : first ≤ count = omega (arith, K.fronted kk, c.field_count-count.ensures.value, c.first_part-first.ensures.value) in
    let all : length ts ≤ count = omega (arith, g.met.M.Make.counted x, ap (λ z. length (fields_of S z)) c.kind-kind.ensures.value, c.field_count-count.ensures.value) in
    let led = both _ _ _ l (slice_range ts 0 first) c.put_lead.ensures.texts c.put_fields.ensures.texts (omega (arith, c.put_lead.ensures.bound, c.requires.room)) in
    let linked = both _ _ _ (l ++ slice_range ts 0 first) p led c.put_links.ensures.texts (omega (arith, few, order, c.put_lead.ensures.bound, c.put_fields.ensures.bound, c.requires.room)) in
    let filled = both _ _ _ ((l ++ slice_range ts 0 first) ++ p) (slice_range ts first count) linked c.put_fields-2.ensures.texts (omega (arith, few, order, c.put_lead.ensures.bound, c.put_fields.ensures.bound, c.put_links.ensures.bound, c.requires.room)) in
    let front : first ≡ first_of S k = c.first_part-first.ensures.value ∙ ap (first_of S) c.kind-kind.ensures.value in
    subst (Lists _ _) (parts_joined l p ts first count all order ∙ ap (λ z. lead S k (g.M.Make.systemtype x) ++ (take z ts ++ (p ++ drop z ts))) front) filled
