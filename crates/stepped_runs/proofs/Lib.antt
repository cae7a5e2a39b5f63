mod Onward
mod ViewsStand
mod Pages
