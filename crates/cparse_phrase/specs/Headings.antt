-- What the code's loop heads stand for.
use Rattle.std.specs.Prelude.{is_none}
use Rattle.ktree.specs.View.{source_of, increment_of}
use Rattle.cparse_phrase.specs.declared.loop_head.LoopHead as code
use Rattle.cparse_cursor.specs.Lexemes.{tokens_of}
use Rattle.cparse_grammar.specs.StatementReader.{Heading}

abbrev pub heading_of : code.LoopHead → Heading
heading_of h = record {
  name = h.name.now;
  start = source_of h.start;
  test = source_of h.test;
  step = increment_of h.step;
  sound = is_none h.fault;
  rest = tokens_of h.rest.now;
}
