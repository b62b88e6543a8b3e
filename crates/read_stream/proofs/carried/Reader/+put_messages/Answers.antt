-- `read_stream::carried::Reader::put_messages` meets its contract: no word, the last word, or a word and those behind it.
use Rattle.std.proofs.Common.{◌≡◌, ◌<◌, tests, le_of_lt, arith, length, length-drop}
use Rattle.std.proofs.lemmas.List.{take_rest}
use Rattle.streams.specs.FitLaws.{rest_of}
use Rattle.read_stream.specs.WordLaws.{first_word, only_word, words_behind}
use Rattle.read_stream.specs.OutputLaws.{room_first, room_rest, put_none, put_last, put_more}
use Rattle.read_stream.proofs.carried.Reader.+put_messages.Goals as goal

pub returns-then-is_empty : goal.returns-then-is_empty
returns-then-is_empty t c =
    let none : length c.args.part.now ≡ 0 = grind (arith, tests) in
    put_none c.args.self.now.found _ c.requires.0 _ _ none

-- There is a first word, and there is room for its bits.
pub put_message-requires : goal.put_message-requires
put_message-requires t c =
    let some : 0 < length c.args.part.now = grind (arith, tests) in
    (only_word _ c.requires.0 some c.if-part-m.true, room_first c.args.self.now.found _ c.requires.0 _ _ some c.requires.1)

pub returns-then-part-m : goal.returns-then-part-m
returns-then-part-m t c =
    let some : 0 < length c.args.part.now = grind (arith, tests) in
    put_last c.args.self.now.found _ c.requires.0 _ _ some c.if-part-m.true c.put_message.ensures

pub put_message-requires-2 : goal.put_message-requires-2
put_message-requires-2 t c =
    let some : 0 < length c.args.part.now = grind (arith, tests) in
    ((first_word _ c.requires.0 some).1, room_first c.args.self.now.found _ c.requires.0 _ _ some c.requires.1)

-- Behind a word that is not the last stand a bridge and more words.
pub slice_bounds-put_messages-count : goal.slice_bounds-put_messages-count
slice_bounds-put_messages-count t c = le_of_lt (rest_of _ _ c.args.self.now.found.ready.in_range c.requires.0.exact c.if-part-m.false).within

pub slice_bounds-put_messages-start : goal.slice_bounds-put_messages-start
slice_bounds-put_messages-start t c = le_of_lt (rest_of _ _ c.args.self.now.found.ready.in_range c.requires.0.exact c.if-part-m.false).within

pub put_messages-requires : goal.put_messages-requires
put_messages-requires t c =
    let found = c.args.self.now.found in
    let range = found.ready.in_range in
    let within = (rest_of _ _ range c.requires.0.exact c.if-part-m.false).within in
    let behind = words_behind _ c.requires.0 range c.if-part-m.false in
    rw take_rest (
      rw length-drop (omega (arith, within)),
      (behind, room_rest found _ c.requires.0 _ _ c.if-part-m.false c.put_message-2.auto.out c.requires.1),
    )

pub returns : goal.returns
returns t c =
    put_more c.args.self.now.found _ c.requires.0 _ _ c.if-part-m.false c.requires.1 c.put_message-2.ensures (rw take_rest at c.put_messages.ensures)
