-- What has come of an answer, read by read.
use Rattle.desk_client.proofs.Common.{Given, HasCome, HasGrown, List, [], arith, grown_more, has_come, inl, inr, length, ℕ, ◌<◌}

-- a read more that brought nothing ended it
pub come_more : (most : ℕ) (a b d : Given) (xs ys : List ℕ) → HasGrown a b [] xs → HasGrown b d xs ys → b.idle < d.idle → HasCome most a d ys
come_more most a b d xs ys first more ended = has_come most a d ys (grown_more a b d xs ys first more) (inl (omega (arith, first.idle, ended)))

-- a read more brought too much
pub come_over : (most : ℕ) (a b d : Given) (xs ys : List ℕ) → HasGrown a b [] xs → HasGrown b d xs ys → most < length ys → HasCome most a d ys
come_over most a b d xs ys first more over = has_come most a d ys (grown_more a b d xs ys first more) (inr over)
