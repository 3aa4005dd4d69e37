use Rattle.std.specs.Prelude.{ℕ, List, ◌++◌, codes}
use Rattle.dispatch_report.specs.Words.{numbered}
use Rattle.request_book.specs.declared.notices.notice.Notice.{Notice}
use Rattle.request_book.specs.declared.notices.notice.Notice.TheVariants.{Promised, Unserved}

-- a notice as a line
unfoldable pub notice_text : Notice → List ℕ
notice_text (Promised batch rider vehicle pickup dropoff) =
    numbered (codes "batch ") batch ++ numbered (codes " rider ") rider ++ numbered (codes " vehicle ") vehicle
    ++ numbered (codes " pickup ") pickup ++ numbered (codes " dropoff ") dropoff ++ codes "\n"
notice_text (Unserved batch rider) = numbered (codes "batch ") batch ++ numbered (codes " rider ") rider ++ codes " unserved" ++ codes "\n"
