-- The hypercalls, of a call with its arguments.
use Rattle.std.specs.Prelude.{ℕ}
use Rattle.argo_model.specs.Programs.Asks.{Rests}
use Rattle.argo_model.specs.Programs.Program.{op, command_of}
use Rattle.argo_model.specs.Programs.Register.{register_ring, unregister_ring}
use Rattle.argo_model.specs.Programs.Send.{sendv}
use Rattle.argo_model.specs.Programs.Notify.{notify}
use Rattle.line_phase.specs.declared.call.Call.{Call}

abbrev pub op_of : Call → ℕ → Rests
op_of c command = op c.caller (command_of command) c.a1 c.a2 c.a3 c.a4

abbrev pub register_of : Call → Rests
register_of c = register_ring c.a1 c.a2 c.a3 c.a4

abbrev pub unregister_of : Call → Rests
unregister_of c = unregister_ring c.a1 c.a2 c.a3 c.a4

abbrev pub send_of : Call → Rests
send_of c = sendv c.caller c.a1 c.a2 c.a3 c.a4

abbrev pub notify_of : Call → Rests
notify_of c = notify c.a1 c.a2 c.a3 c.a4
