-- The law of replies, as reply_causes proves it.
pub use Rattle.reply_causes.specs.Runs.{HasCause, RepliesHaveCauses, AllRepliesHaveCauses}
