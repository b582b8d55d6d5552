-- `kinds::blocks_pass` meets its contract: the tokens before the present ones are known by their words and their value types.
use Rattle.std.proofs.Common.{rules, arith}
use Rattle.kinds.proofs.Laws.{no-types, no-words, no_block, next-types, next-kinds, blocks-pass, blocks-fail}
use Rattle.kinds.proofs.blocks_pass.Goals as goal

pub returns-then-is_empty : goal.returns-then-is_empty
returns-then-is_empty c = no_block _ _ _ _ (grind arith) c.requires.0

pub loop-block-init : goal.loop-block-init
loop-block-init c = (search rules, search rules, no-types 32, no-words c.args.limit 4)

pub loop-block-preserved : goal.loop-block-preserved
loop-block-preserved c = (
  search rules,
  search rules,
  search (rules, next-types),
  next-kinds _ _ c.loop-block-test.true (c.join_words.ensures _ c.loop-block.invariant.3),
)

pub returns-then-joined-eq0 : goal.returns-then-joined-eq0
returns-then-joined-eq0 c =
    let (t, s, g, f) = c.loop-block.invariant in
    blocks-pass _ _ _ f g c.loop-block-test.false c.requires.0 t s c.joined.ensures c.args.type_limit
    c.if-joined-eq0.true c.largest.ensures

pub returns-else-joined-eq0 : goal.returns-else-joined-eq0
returns-else-joined-eq0 c =
    let (t, s, g, f) = c.loop-block.invariant in
    blocks-fail _ _ _ f g c.loop-block-test.false c.requires.0 t s c.joined.ensures c.args.type_limit
    c.if-joined-eq0.false
