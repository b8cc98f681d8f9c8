-- The text of each kind of line.
use Rattle.std.specs.Prelude.{ℕ, ◌*◌, List}
use Rattle.std.specs.List.{flat_map, range_with_len}
use Rattle.argo_model.specs.Runs.Report.{opening_line, summary_line, schedule_line, done_line, domain_line, ring_line, message_line, notice_line, slots_at, slots_line, totals_line, end_line}
use Rattle.report_text.specs.declared.line.ReportLine.{ReportLine}
use Rattle.report_text.specs.declared.line.ReportLine.TheVariants.{Opening, SummaryOpening, Schedule, Done, Domain, Ring, Message, Notice, Slots, Totals, End}

abbrev pub text_of : ReportLine → List ℕ
text_of (Opening version) = opening_line version
text_of SummaryOpening = summary_line
text_of (Schedule runs) = schedule_line runs.now
text_of (Done done) = done_line done.now
text_of (Domain version domain) = domain_line version domain.now
text_of (Ring owner ring) = ring_line owner ring.now
text_of (Message message) = message_line message.now
text_of (Notice notice) = notice_line notice.now
text_of (Slots at row) = slots_line at row.now
text_of (Totals vcpu totals) = totals_line (vcpu, totals.now)
text_of End = end_line

-- n rows of the slots, from a number on
abbrev pub rows_text : List ℕ → ℕ → ℕ → List ℕ
rows_text slots from n = flat_map (λ k. slots_at slots (32 * k)) (range_with_len from n)
