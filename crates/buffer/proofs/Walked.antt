-- The walks, at the contracts that the functions have.
use seplogic.Ra.Ura.{Ura}
use base.Logic.{SProp}
use prog.Memory.{Memory}
use prog.Routine.{Callee, Routine}
use prog.Wp.{WpFn, Tables}
use types.Logic.{Logic}
use contract.Monad.{Fun}
use denote.Triple.Spec.{triple_of}
use denote.Triple.Statement.{Triple}
use Rattle.nodes.specs.contracts.push as push
use Rattle.nodes.specs.contracts.push_list_item as push_list_item
use Rattle.buffer.specs.contracts.ParseBuffer.append as append
use Rattle.buffer.specs.contracts.ParseBuffer.append_item as append_item
use Rattle.buffer.specs.contracts.append_to as append_to
use Rattle.buffer.specs.contracts.append_item_to as append_item_to
use Rattle.buffer.proofs.Counts as Counts
use Rattle.buffer.proofs.Lending as Lending
use Rattle.buffer.proofs.Lists as Lists
use Rattle.buffer.proofs.Ways.{counting, listing, appending, appending-item}

module _ {M : Type 1} {𝓤 : Ura M} (𝓛 : Logic 𝓤) (mem : Memory → SProp 𝓤) (run : Routine → Fun 𝓤) (#core : Callee)
    (𝓣 : Tables 𝓤 𝓛.H) where
  pub append_walked :
      Triple 𝓤 (𝓣.C #core) (triple_of 𝓛 push.signature (push.spec 𝓛 mem run)) →
      Triple 𝓤 (WpFn 𝓤 𝓛.H 𝓣.C 𝓣.Λ (Counts.function _ counting #core))
      (triple_of 𝓛 append.signature (append.spec 𝓛 mem run))
  append_walked = Counts.counts _ counting #core 𝓛 𝓣

  pub append_item_walked :
      Triple 𝓤 (𝓣.C #core) (triple_of 𝓛 push_list_item.signature (push_list_item.spec 𝓛 mem run)) →
      Triple 𝓤 (WpFn 𝓤 𝓛.H 𝓣.C 𝓣.Λ (Lists.function listing #core))
      (triple_of 𝓛 append_item.signature (append_item.spec 𝓛 mem run))
  append_item_walked = Lists.relists listing #core 𝓛 𝓣

  pub append_to_walked :
      Triple 𝓤 (𝓣.C #core) (triple_of 𝓛 append.signature (append.spec 𝓛 mem run)) →
      Triple 𝓤 (WpFn 𝓤 𝓛.H 𝓣.C 𝓣.Λ (Lending.function _ appending #core))
      (triple_of 𝓛 append_to.signature (append_to.spec 𝓛 mem run))
  append_to_walked = Lending.returned _ appending #core 𝓛 𝓣

  pub append_item_to_walked :
      Triple 𝓤 (𝓣.C #core) (triple_of 𝓛 append_item.signature (append_item.spec 𝓛 mem run)) →
      Triple 𝓤 (WpFn 𝓤 𝓛.H 𝓣.C 𝓣.Λ (Lending.function _ appending-item #core))
      (triple_of 𝓛 append_item_to.signature (append_item_to.spec 𝓛 mem run))
  append_item_to_walked = Lending.returned _ appending-item #core 𝓛 𝓣
