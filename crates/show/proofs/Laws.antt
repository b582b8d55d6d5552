-- The nodes in two columns.
use Rattle.std.proofs.Common.{ℕ, ◌<◌, ◌≡◌, refl, ◌∙◌, min, List, length, get_or, slice_get, Some, arith}
use Rattle.std.proofs.lemmas.List.{length-map}
use Rattle.std.proofs.lemmas.Slice.Zip.{length-zip, get_or-zip}
use Rattle.std.proofs.lemmas.Option.{slice_get-map, slice_get-get_or}
use Rattle.std.specs.List.{zip}
use Rattle.show.specs.Shown.{node_in, nodes_in}

module _ (kinds loads : List ℕ) where
  pub nodes_counted : length (nodes_in kinds loads) ≡ min (length kinds) (length loads)
  nodes_counted = length-map (zip kinds loads) node_in ∙ length-zip kinds loads

  pub node_found : (place : ℕ) → place < length kinds → place < length loads →
      slice_get (nodes_in kinds loads) place ≡ Some (record { 0 = get_or kinds place 0; 1 = get_or loads place 0 })
  node_found place k l =
      let e = length-zip kinds loads in
      slice_get-map node_in (zip kinds loads) place ∙
      rw (slice_get-get_or (zip kinds loads) place (0, 0) (omega arith), get_or-zip kinds loads place (0, 0) k l) refl
