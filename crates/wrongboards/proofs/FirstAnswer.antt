-- Lists of answers that are the same have the same first number and the same first reply.
use mathlib.Core.Path.{◌≡◌, ap}
use mathlib.Core.List.{List, [], ◌∷◌}
use Rattle.demands.specs.Replies.{CallAnswer}

abbrev pub first : List CallAnswer → CallAnswer
first [] = record { number = 0; reply = [] }
first (x ∷ xs) = x

pub first-number : {xs ys : List CallAnswer} → xs ≡ ys → (first xs).number ≡ (first ys).number
first-number e = ap (λ (l : List CallAnswer). (first l).number) e

pub first-reply : {xs ys : List CallAnswer} → xs ≡ ys → (first xs).reply ≡ (first ys).reply
first-reply e = ap (λ (l : List CallAnswer). (first l).reply) e
