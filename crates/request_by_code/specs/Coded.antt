-- What one request, or what is none, comes to.
use Rattle.std.proofs.Math.Option.{Option, none, some}
use Rattle.spec_model.specs.Basics.{Res, refuse}
use Rattle.spec_model.specs.Requests.{System, Request, Result, serve}
use Rattle.spec_model.specs.Refusals.{form}

-- What is no request is refused with 1 (U6, P11).
unfoldable pub serve_asked : System → Option Request → Res (System × Result)
unfolding serve
serve_asked s none = refuse form
serve_asked s (some q) = serve s q
