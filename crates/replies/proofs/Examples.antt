-- Two replies worked out by hand.
use Rattle.std.proofs.Common.{◌≡◌, codes, refl}
use Rattle.elements.specs.Fields.{spelled}
use Rattle.elements.specs.Table.{table}
use Rattle.composer.specs.Writing.{head}
use Rattle.replies.specs.Replies.{answer, bitmap, came, type_of}

-- a request with elements 2, 3, 4, 7, 11 and 32 that is approved: 2 is not repeated
first_answer : answer (codes "02007220000100000000165000000000000001000000000000002500010510150000000103111") 0 ≡ codes "0210322000010200000000000000000000250001051015000000010311100"
unfolding answer bitmap came type_of head spelled table
first_answer = refl

-- a repeated advice of a reversal with all eight: 39 stands between 37 and 41
second_answer : answer (codes "0421322000010880800000000000000000250001051015000000010311112345678901aTERM0001978") 5 ≡ codes "0430322000010A80800000000000000000250001051015000000010311112345678901a05TERM0001978"
unfolding answer bitmap came type_of head spelled table
second_answer = refl
