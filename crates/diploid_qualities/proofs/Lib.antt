-- What belongs to no one function of `diploid_qualities`.
mod ScoreLaws
