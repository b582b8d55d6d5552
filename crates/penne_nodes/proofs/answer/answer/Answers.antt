-- `penne_nodes::answer::answer` meets its contract: by whether the file is bad.
use Rattle.std.proofs.Common.{rules}
use Rattle.penne_nodes.proofs.Laws.{bad-answered, question-answered, parse-put, nodes-room}
use Rattle.penne_nodes.proofs.answer.answer.Goals as goal

pub returns-in_default-clause-answers : goal.returns-in_default-clause-answers
returns-in_default-clause-answers c = bad-answered _ _ c.in_default.ensures (search rules)

pub put_nodes-requires-clause-room : goal.put_nodes-requires-clause-room
put_nodes-requires-clause-room c =
    let (bytes, end) = c.new-text.ensures.no_text in
    nodes-room _ c.parse-reply.ensures.fits c.node_count.ensures c.put_reply.ensures.puts (rw (bytes, end) c.requires.room)

pub returns-clause-answers : goal.returns-clause-answers
returns-clause-answers c =
    let p = parse-put _ _ _ c.node_count.ensures c.put_reply.ensures c.put_nodes.ensures in
    question-answered _ _ c.in-Some.ensures _ c.parse-reply.ensures.gives (search rules)
