-- Lines as they are read (P5 to P11), computed.
use mathlib.Core.Path.{◌≡◌, refl}
use mathlib.Core.List.{[], ◌∷◌}
use mathlib.Core.Option.{none, some}
use lib.IntN.{pos, negsuc}
use Rattle.spec_model.specs.Requests.{new, move, call, answer}
use Rattle.spec_sheet.specs.Lines.{bytes}
use Rattle.script_read_request.specs.Asked.{request_line}

-- the four requests
pub p5-new : request_line (bytes "do=new 0 1 4") ≡ some (new (pos 0) (pos 1) (pos 4))
unfolding request_line
p5-new = refl

pub p6-move : request_line (bytes "do=move 0 1 2 3") ≡ some (move (pos 0) (pos 1) (pos 2) (pos 3))
unfolding request_line
p6-move = refl

pub p7-call : request_line (bytes "do=call 0 1 2") ≡ some (call (pos 0) (pos 1) (pos 2) [])
unfolding request_line
p7-call = refl

pub p7-four-arguments : request_line (bytes "do=call 0 1 2 3 4 5 -6") ≡ some (call (pos 0) (pos 1) (pos 2) (pos 3 ∷ pos 4 ∷ pos 5 ∷ negsuc 5 ∷ []))
unfolding request_line
p7-four-arguments = refl

pub p8-answer : request_line (bytes "do=answer 0 0 -7") ≡ some (answer (pos 0) (pos 0) (some (negsuc 6)))
unfolding request_line
p8-answer = refl

pub p8-nothing : request_line (bytes "do=answer 0 0 -") ≡ some (answer (pos 0) (pos 0) none)
unfolding request_line
p8-nothing = refl

-- counts that are wrong
pub p7-five-arguments : request_line (bytes "do=call 0 1 2 3 4 5 6 7") ≡ none
unfolding request_line
p7-five-arguments = refl

pub p5-two : request_line (bytes "do=new 0 1") ≡ none
unfolding request_line
p5-two = refl

pub p8-not-said : request_line (bytes "do=answer 0 0") ≡ none
unfolding request_line
p8-not-said = refl

pub p6-nothing-given : request_line (bytes "do=move 0 1 -") ≡ none
unfolding request_line
p6-nothing-given = refl

pub p11-nothing-as-argument : request_line (bytes "do=call 0 1 2 -") ≡ none
unfolding request_line
p11-nothing-as-argument = refl

-- the ends of 64 bits
pub p9-largest : request_line (bytes "do=answer 0 0 9223372036854775807") ≡ some (answer (pos 0) (pos 0) (some (pos 9223372036854775807)))
unfolding request_line
p9-largest = refl

pub p9-past-largest : request_line (bytes "do=answer 0 0 9223372036854775808") ≡ none
unfolding request_line
p9-past-largest = refl

pub p9-least : request_line (bytes "do=answer 0 0 -9223372036854775808") ≡ some (answer (pos 0) (pos 0) (some (negsuc 9223372036854775807)))
unfolding request_line
p9-least = refl

pub p9-past-least : request_line (bytes "do=answer 0 0 -9223372036854775809") ≡ none
unfolding request_line
p9-past-least = refl

pub p9-far-past : request_line (bytes "do=answer 0 0 99999999999999999999999999999999") ≡ none
unfolding request_line
p9-far-past = refl

-- forms that are wrong
pub p9-minus-zero : request_line (bytes "do=new 0 1 -0") ≡ none
unfolding request_line
p9-minus-zero = refl

pub p9-leading-zero : request_line (bytes "do=new 0 1 04") ≡ none
unfolding request_line
p9-leading-zero = refl

pub p9-plus : request_line (bytes "do=new 0 1 +4") ≡ none
unfolding request_line
p9-plus = refl

pub p10-two-spaces : request_line (bytes "do=new 0  1 4") ≡ none
unfolding request_line
p10-two-spaces = refl

pub p10-space-behind : request_line (bytes "do=new 0 1 4 ") ≡ none
unfolding request_line
p10-space-behind = refl

pub p10-space-before : request_line (bytes " do=new 0 1 4") ≡ none
unfolding request_line
p10-space-before = refl

pub p10-no-space : request_line (bytes "do=new0 1 4") ≡ none
unfolding request_line
p10-no-space = refl

pub p11-other-word : request_line (bytes "do=drop 0 1 4") ≡ none
unfolding request_line
p11-other-word = refl

pub p11-blank : request_line [] ≡ none
unfolding request_line
p11-blank = refl
