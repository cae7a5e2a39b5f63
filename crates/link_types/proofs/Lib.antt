-- What these pages are for: lists in a loop; items that count from 1; the rows of meanings.
pub mod Lists
pub mod Numbered
pub mod FindMeans
