use Rattle.tokens.proofs.Laws.{found, missing}
use Rattle.tokens.proofs.Bounds.{optional-next}
use Rattle.rules.specs.Codes.BaseToken as BaseToken
use mathlib.Core.Path.{refl}
use native.Mathlib.Omega.{arith}
use borrow.Author.Rules.{rules}
use Rattle.literals.proofs.Laws.{strung-first, strung-again, strung-last}
use Rattle.literals.proofs.end_of_strings.Goals as goal

pub loop-cursor-init : goal.loop-cursor-init
loop-cursor-init c = (search rules, strung-first _ _)

pub loop-cursor-smaller : goal.loop-cursor-smaller
loop-cursor-smaller c =
    let g = found c.args.row.now.kinds.now BaseToken.StringLiteral c.peek.result c.loop-cursor.cursor.0 c.peek.ensures c.loop-cursor-test.true in
    let (p, b) = optional-next g refl refl in
    omega arith

pub loop-cursor-preserved : goal.loop-cursor-preserved
loop-cursor-preserved c =
    let g = found c.args.row.now.kinds.now BaseToken.StringLiteral c.peek.result c.loop-cursor.cursor.0 c.peek.ensures c.loop-cursor-test.true in
    let (p, b) = optional-next g refl refl in
    (omega arith, strung-again _ _ c.loop-cursor.invariant.1 g refl)

pub returns : goal.returns
returns c = (strung-last _ _ c.loop-cursor.invariant.1 (missing _ _ _ _ c.peek.ensures c.loop-cursor-test.false) refl, omega arith)
