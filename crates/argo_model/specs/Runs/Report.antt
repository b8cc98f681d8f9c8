-- The text of a report, its summary and its replies: each line as its words.
use Rattle.std.specs.Prelude.{ℕ, ◌*◌, ◌/◌, ◌%◌, Bool, false, ◌==◌, if◌then◌else◌, List, [], ◌∷◌, ◌++◌, length, map, take, drop, codes, decimal, flat_map}
use Rattle.std.specs.List.{join_with_byte, list_all, range_with_len, enumerate_from}
use Rattle.std.specs.Int.{div_ceil}
use Rattle.std.specs.Fmt.{digit_glyph, signed_decimal}
use Rattle.argo_base.specs.declared.message.Message.{Message}
use Rattle.argo_base.specs.Match.{is_wildcard}
use Rattle.argo_model.specs.declared.reply.Reply.{Reply}
use Rattle.argo_model.specs.declared.reply.Reply.TheVariants.{Stored, Hex, Number, Signal, NoSignal, Msg, Empty, Bad, Fault, Gone}
use Rattle.argo_model.specs.declared.closing.Run.{Run}
use Rattle.argo_model.specs.declared.closing.DoneLine.{DoneLine}
use Rattle.argo_model.specs.declared.closing.Totals.{Totals}
use Rattle.argo_model.specs.declared.closing.NoticeLine.{NoticeLine}
use Rattle.argo_model.specs.declared.closing.FinalRing.{FinalRing}
use Rattle.argo_model.specs.declared.closing.FinalDomain.{FinalDomain}
use Rattle.argo_model.specs.declared.closing.Final.{Final}

-- words with one space between them
abbrev pub spaced : List (List ℕ) → List ℕ
spaced words = join_with_byte 32 words

-- a line: its words, and a line feed
abbrev pub line : List (List ℕ) → List ℕ
line words = spaced words ++ 10 ∷ []

-- a byte as two lower-case hexadecimal digits
abbrev pub hex_byte : ℕ → List ℕ
hex_byte b = digit_glyph false (b / 16) ∷ digit_glyph false (b % 16) ∷ []

abbrev pub hex_of : List ℕ → List ℕ
hex_of bytes = flat_map hex_byte bytes

-- the first bytes of a body, or `-` where it has none
abbrev pub head_of : List ℕ → List ℕ
head_of [] = codes "-"
head_of (b ∷ bs) = hex_of (b ∷ bs)

-- what a line of a script came to
abbrev pub reply_bytes : Reply → List ℕ
reply_bytes Stored = codes "ok"
reply_bytes (Hex bytes) = hex_of bytes
reply_bytes (Number n) = signed_decimal n
reply_bytes Signal = codes "signal"
reply_bytes NoSignal = codes "none"
reply_bytes (Msg src port kind size head) =
    spaced (codes "msg" ∷ decimal src ∷ decimal port ∷ decimal kind ∷ decimal size ∷ head_of head ∷ [])
reply_bytes Empty = codes "empty"
reply_bytes Bad = codes "bad"
reply_bytes Fault = codes "fault"
reply_bytes Gone = codes "gone"

-- a report names the format of its script
abbrev pub opening_line : ℕ → List ℕ
opening_line version = line (codes "argo" ∷ codes "report" ∷ decimal version ∷ [])

-- so many steps of a section, one after another
abbrev pub run_word : Run → List ℕ
run_word r = decimal r.vcpu ++ codes "*" ++ decimal r.count

-- the schedule in one line
abbrev pub schedule_line : List Run → List ℕ
schedule_line rs = line (codes "schedule" ∷ map run_word rs)

-- a line of the script that is done: its section, its place there, and its reply
abbrev pub done_line : DoneLine → List ℕ
done_line d = line (codes "reply" ∷ decimal d.vcpu ∷ decimal d.line ∷ reply_bytes d.reply ∷ [])

-- a domain that is gone says so, also where it is off
abbrev pub life_word : FinalDomain → List ℕ
life_word d = if d.alive then (if d.on then codes "alive" else codes "off") else codes "gone"

abbrev pub flag_word : Bool → List ℕ
flag_word set = if set then codes "flag" else codes "clear"

-- format 2 shows the generation of a domain
abbrev pub domain_line : ℕ → FinalDomain → List ℕ
domain_line version d =
    if version == 2
    then line (codes "domain" ∷ decimal d.id ∷ codes "gen" ∷ decimal d.generation ∷ life_word d ∷ flag_word d.flag ∷ [])
    else line (codes "domain" ∷ decimal d.id ∷ life_word d ∷ flag_word d.flag ∷ [])

-- the wildcard partner of a ring is `any`
abbrev pub partner_word : ℕ → List ℕ
partner_word partner = if is_wildcard partner then codes "any" else decimal partner

abbrev pub clean_word : Bool → List ℕ
clean_word clean = if clean then codes "clean" else codes "dirty"

-- a ring of that domain
abbrev pub ring_line : ℕ → FinalRing → List ℕ
ring_line owner r =
    line (
    codes "ring" ∷ decimal owner ∷ decimal r.key.port ∷ partner_word r.key.partner ∷ codes "len" ∷ decimal r.len
    ∷ codes "tx" ∷ decimal r.tx ∷ clean_word r.clean ∷ [])

-- a message that waits for its receiver, with the size of its body
abbrev pub message_line : Message → List ℕ
message_line m = line (codes "message" ∷ decimal m.src ∷ decimal m.port ∷ decimal m.kind ∷ decimal (length m.body) ∷ [])

-- messages are shown of clean rings alone
abbrev pub message_lines : FinalRing → List ℕ
message_lines r = if r.clean then flat_map message_line r.untaken else []

abbrev pub notice_line : NoticeLine → List ℕ
notice_line n = line (codes "notice" ∷ decimal n.dom ∷ decimal n.size ∷ [])

-- some bytes of the slots with their place
abbrev pub slots_line : ℕ → List ℕ → List ℕ
slots_line at row = line (codes "slots" ∷ decimal at ∷ hex_of row ∷ [])

-- bytes that are all zero are left out
abbrev pub shown_row : ℕ → List ℕ → List ℕ
shown_row at row = if list_all (λ b. b == 0) row then [] else slots_line at row

-- the 32 slot bytes from a place on, or what is left there
abbrev pub slots_at : List ℕ → ℕ → List ℕ
slots_at slots at = shown_row at (take 32 (drop at slots))

-- all slot bytes in rows of 32
abbrev pub slots_lines : List ℕ → List ℕ
slots_lines slots = flat_map (λ k. slots_at slots (32 * k)) (range_with_len 0 (div_ceil (length slots) 32))

-- a ring: its line, its untaken messages, its notices and its slots
abbrev pub ring_text : ℕ → FinalRing → List ℕ
ring_text owner r = ring_line owner r ++ (message_lines r ++ (flat_map notice_line r.notices ++ slots_lines r.slots))

-- a domain and its rings
abbrev pub domain_text : ℕ → FinalDomain → List ℕ
domain_text version d = domain_line version d ++ flat_map (ring_text d.id) d.rings

-- what a section did
abbrev pub totals_line : ℕ × Totals → List ℕ
totals_line e =
    line (
    codes "vcpu" ∷ decimal e.0 ∷ codes "steps" ∷ decimal e.1.steps ∷ codes "accepted" ∷ decimal e.1.accepted
    ∷ codes "bytes" ∷ decimal e.1.bytes ∷ [])

-- the sections by their numbers, which are their places
abbrev pub totals_lines : List Totals → List ℕ
totals_lines ts = flat_map totals_line (enumerate_from 0 ts)

abbrev pub end_line : List ℕ
end_line = line (codes "end" ∷ [])

-- what both texts end with
abbrev pub closing_text : Final → List ℕ
closing_text f = totals_lines f.totals ++ end_line

-- a summary names its own format
abbrev pub summary_line : List ℕ
summary_line = line (codes "argo" ∷ codes "summary" ∷ codes "1" ∷ [])

-- a whole report
abbrev pub report_of : Final → List ℕ
report_of f =
    opening_line f.version
    ++ (schedule_line f.runs ++ (flat_map done_line f.done ++ (flat_map (domain_text f.version) f.domains ++ closing_text f)))

-- its summary, the same for both formats
abbrev pub summary_of : Final → List ℕ
summary_of f = summary_line ++ closing_text f
