-- The walks, at the contracts that the functions have.
use seplogic.Ra.Ura.{Ura}
use base.Logic.{SProp}
use mir.Syntax.{imm, mut}
use prog.Memory.{Memory}
use prog.Routine.{Callee, Routine}
use prog.Wp.{WpFn, Tables}
use types.Logic.{Logic}
use contract.Monad.{Fun}
use denote.Triple.Spec.{triple_of}
use denote.Triple.Statement.{Triple}
use Rattle.walks.proofs.Extra.{none}
use Rattle.tokens.specs.contracts.Row.take as row_take
use Rattle.tokens.specs.contracts.Row.consume as row_consume
use Rattle.tokens.specs.contracts.Row.consume_optional as row_consume_optional
use Rattle.reader.specs.contracts.Tokens.new as new
use Rattle.reader.specs.contracts.Tokens.peek as peek
use Rattle.reader.specs.contracts.Tokens.take as take
use Rattle.reader.specs.contracts.Tokens.consume as consume
use Rattle.reader.specs.contracts.Tokens.consume_optional as consume_optional
use Rattle.reader.specs.contracts.peek_at as peek_at
use Rattle.reader.specs.contracts.take_at as take_at
use Rattle.reader.proofs.Forms.{free, bounded}
use Rattle.reader.proofs.Lending as Lending
use Rattle.reader.proofs.Moves as Moves
use Rattle.reader.proofs.Tries as Tries
use Rattle.reader.proofs.Expects as Expects
use Rattle.reader.proofs.Ways.{looking, peeking, taking, trying, expecting}

module _ {M : Type 1} {𝓤 : Ura M} (𝓛 : Logic 𝓤) (mem : Memory → SProp 𝓤) (run : Routine → Fun 𝓤) (#core : Callee)
    (𝓣 : Tables 𝓤 𝓛.H) where
  pub take_walked :
      Triple 𝓤 (𝓣.C #core) (triple_of 𝓛 row_take.signature (row_take.spec 𝓛 mem run)) →
      Triple 𝓤 (WpFn 𝓤 𝓛.H 𝓣.C 𝓣.Λ (Moves.function none taking #core)) (triple_of 𝓛 take.signature (take.spec 𝓛 mem run))
  take_walked = Moves.moves-on none taking #core 𝓛 𝓣

  pub consume_optional_walked :
      Triple 𝓤 (𝓣.C #core) (triple_of 𝓛 row_consume_optional.signature (row_consume_optional.spec 𝓛 mem run)) →
      Triple 𝓤 (WpFn 𝓤 𝓛.H 𝓣.C 𝓣.Λ (Tries.function _ trying #core))
      (triple_of 𝓛 consume_optional.signature (consume_optional.spec 𝓛 mem run))
  consume_optional_walked = Tries.tries _ trying #core 𝓛 𝓣

  pub consume_walked :
      Triple 𝓤 (𝓣.C #core) (triple_of 𝓛 row_consume.signature (row_consume.spec 𝓛 mem run)) →
      Triple 𝓤 (WpFn 𝓤 𝓛.H 𝓣.C 𝓣.Λ (Expects.function _ expecting #core))
      (triple_of 𝓛 consume.signature (consume.spec 𝓛 mem run))
  consume_walked = Expects.expects _ expecting #core 𝓛 𝓣

module _ {M : Type 1} {𝓤 : Ura M} (𝓛 : Logic 𝓤) (mem : Memory → SProp 𝓤) (run : Routine → Fun 𝓤) (#new #f : Callee)
    (𝓣 : Tables 𝓤 𝓛.H) (made : Triple 𝓤 (𝓣.C #new) (triple_of 𝓛 new.signature (new.spec 𝓛 mem run))) where
  pub peek_at_walked :
      Triple 𝓤 (𝓣.C #f) (triple_of 𝓛 peek.signature (peek.spec 𝓛 mem run)) →
      Triple 𝓤 (WpFn 𝓤 𝓛.H 𝓣.C 𝓣.Λ (Lending.function imm peeking free #new #f))
      (triple_of 𝓛 peek_at.signature (peek_at.spec 𝓛 mem run))
  peek_at_walked known =
      Lending.made-and-lent imm peeking free #new #f 𝓛 mem run 𝓣 made (λ fm κ q l h _.
      Lending.lends-shr none looking 𝓛 𝓣.C 𝓣.Λ #f fm known κ q l h)

  pub take_at_walked :
      Triple 𝓤 (𝓣.C #f) (triple_of 𝓛 take.signature (take.spec 𝓛 mem run)) →
      Triple 𝓤 (WpFn 𝓤 𝓛.H 𝓣.C 𝓣.Λ (Lending.function mut taking bounded #new #f))
      (triple_of 𝓛 take_at.signature (take_at.spec 𝓛 mem run))
  take_at_walked known =
      Lending.made-and-lent mut taking bounded #new #f 𝓛 mem run 𝓣 made (λ fm κ q l h below.
      Lending.lends-mut none taking.way 𝓛 𝓣.C 𝓣.Λ #f fm known κ q l h below)
