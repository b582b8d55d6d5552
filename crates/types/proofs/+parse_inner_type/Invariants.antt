-- The nesting that is left is less at each call.
use Rattle.types.proofs.+parse_inner_type.Given as goal

abbrev pub decreases-parse_inner_type : goal.decreases-parse_inner_type
decreases-parse_inner_type l = l.unused
