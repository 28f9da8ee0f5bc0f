mod MapLemmas
mod NextLemmas
mod FreeLemmas
