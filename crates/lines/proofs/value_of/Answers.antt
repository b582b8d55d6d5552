-- `lines::value_of` meets its contract: where the value of the first digits is too large, that of all of them is.
use Rattle.std.proofs.Common.{arith, refl}
use Rattle.std.proofs.lemmas.Grind.{common_steps}
use Rattle.lines.proofs.Laws.{value-grows, until-next, until-above}
use Rattle.lines.proofs.value_of.Goals as goal

pub loop-place-init : goal.loop-place-init
loop-place-init c = record { value = refl; within = omega arith; left = omega arith }

pub overflow_mul-value : goal.overflow_mul-value
overflow_mul-value c = grind (arith, common_steps, c.loop-place.invariant.within)

pub overflow_add-value : goal.overflow_add-value
overflow_add-value c = grind (arith, common_steps, c.loop-place.invariant.within)

pub returns-then-value-limit : goal.returns-then-value-limit
returns-then-value-limit c = grind (arith, common_steps, value-grows c.args.digits.now c.loop-place.place, until-next c.args.most c.loop-place.value c.args.digits.now c.loop-place.place, until-above c.args.most)

pub loop-place-preserved : goal.loop-place-preserved
loop-place-preserved c = grind (arith, common_steps, value-grows c.args.digits.now c.loop-place.place, until-next c.args.most c.loop-place.value c.args.digits.now c.loop-place.place, until-above c.args.most)

pub overflow_cast-result : goal.overflow_cast-result
overflow_cast-result c = grind (arith, common_steps, c.loop-place.invariant.within)

pub returns : goal.returns
returns c = grind (arith, common_steps)
