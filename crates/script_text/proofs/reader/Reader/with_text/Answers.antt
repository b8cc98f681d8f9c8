use Rattle.std.proofs.Common.{sym, ◌∙◌}
use Rattle.script_text.specs.Lines.{words_of}
use Rattle.script_text.proofs.Sound.{sound, has_room}
use Rattle.script_text.proofs.reader.Reader.with_text.Goals as goal

pub with_entry-requires-clause-room : goal.with_entry-requires-clause-room
with_entry-requires-clause-room c =
    has_room c.args.self c.in_ok-entry.entry
    (sound c.args.self c.in-Some.first.now (words_of c.in-Some.rest.now) c.in-Some-verb_of.verb c.in_ok-entry.entry
    (rw (← c.self.view_is) (sym c.verb_of.ensures ∙ c.in-Some-verb_of.is))
    (sym c.is_in_place.ensures ∙ c.if-not-is_in_place.false)
    c.in_ok-entry.ensures)
