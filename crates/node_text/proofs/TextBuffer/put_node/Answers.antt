-- `node_text::TextBuffer::put_node` meets its contract: by the laws of texts one after the other.
use Rattle.std.proofs.Common.{◌++◌, ◌≡◌, rules}
use Rattle.node_text.specs.Text.{decimal, two, newline, line}
use Rattle.node_text.proofs.Texts.{then, first-room, next-room}
use Rattle.node_text.proofs.TextBuffer.put_node.Goals as goal

pub put_number-requires : goal.put_number-requires
unfolding line
put_number-requires c =
    let number = decimal c.args.number in
    let values = two c.args.node.0 c.args.node.1 in
    first-room number values (first-room (number ++ values) newline c.requires)

pub put_two-requires : goal.put_two-requires
unfolding line
put_two-requires c =
    let e : c.from.result ≡ c.args.node.0 = search rules in
    let number = decimal c.args.number in
    let values = two c.args.node.0 c.args.node.1 in
    rw e (next-room number values (first-room (number ++ values) newline c.requires) c.put_number.ensures.puts)

pub put-requires : goal.put-requires
unfolding line
put-requires c =
    let e : c.from.result ≡ c.args.node.0 = search rules in
    let number = decimal c.args.number in
    let values = two c.args.node.0 c.args.node.1 in
    next-room (number ++ values) newline c.requires (then c.put_number.ensures (rw e at c.put_two.ensures)).puts

pub returns : goal.returns
unfolding line
returns c =
    let e : c.from.result ≡ c.args.node.0 = search rules in
    then (then c.put_number.ensures (rw e at c.put_two.ensures)) c.put.ensures
