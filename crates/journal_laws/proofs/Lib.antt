mod Again
mod LeafOnce
mod Committed
mod Checked
mod Claimed
mod Viewed
mod Named
