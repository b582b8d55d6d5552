use Rattle.std.proofs.Common.{refl}
use Rattle.std.proofs.lemmas.Slice.{overwrites}
use borrow.Author.Rules.{rules}
use Rattle.node_text.proofs.TextBuffer.put_bytes.Goals as goal

pub returns : goal.returns
returns c =
    let room = c.requires.there in
    record {
      same = refl;
      puts = record {
        size = search (rules, overwrites);
        place = refl;
        start = search (rules, overwrites);
        rest = search (rules, overwrites);
      };
    }
